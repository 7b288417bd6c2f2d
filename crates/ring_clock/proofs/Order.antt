-- The order of clocks is succession.
use Rattle.std.proofs.Common.{◌≡◌, ◌≢◌, ◌⊎◌, inl, inr, ◌∙◌, ℕ, zero, suc, ◌<◌, List, length, refl, sym, ap, subst, arith}
use Rattle.std.proofs.lemmas.Bool.Decides.{eqb_tells}
use Rattle.ring_clock.specs.declared.entry.Entry.{Entry}
use Rattle.ring_clock.specs.declared.causes.Cause.{Cause}
use Rattle.ring_clock.specs.Clock.{counter, IsAtMost}
use Rattle.ring_clock.specs.Causes.{writer_of, IsDirect, Succeeds, itself, by, IsSuccession}
use Rattle.ring_clock.proofs.Making.{facts}
use Rattle.ring_clock.specs.Built.{AreClocks}

join : (causes : List Cause) (k j v : ℕ) → Succeeds causes k j → Succeeds causes j v → Succeeds causes k v
join causes k j v (itself _) s = s
join causes k j v (by _ i _ d r) s = by k i v d (join causes i j v r s)

-- a put that is succeeded has a clock that is at most the other's
above : (causes : List Cause) (clock : ℕ → List Entry) → AreClocks causes clock → (k v : ℕ) → k < length causes → Succeeds causes k v → IsAtMost (clock v) (clock k)
above causes clock made k v h (itself _) = λ w. omega arith
above causes clock made k v h (by _ j _ d s) =
    let rest = above causes clock made j v (omega (arith, d.1)) s in
    let one = (facts causes clock k (made k h)).above j d in
    λ w. (let a = rest w in let b = one w in omega arith)

-- the put of writer a that gave put k its counter of a
abbrev Source : List Cause → (ℕ → List Entry) → ℕ → ℕ → Type 0
Source causes clock k a = (j : ℕ) × (j < length causes) × (writer_of causes j ≡ a) × (counter (clock j) a ≡ counter (clock k) a) × Succeeds causes k j

source : (causes : List Cause) (clock : ℕ → List Entry) → AreClocks causes clock → (m k a : ℕ) → k < m → k < length causes → 0 < counter (clock k) a → Source causes clock k a
source causes clock made zero k a l h some = absurd (omega arith)
source causes clock made (suc m) k a l h some = elim (eqb_tells a (writer_of causes k)) [
  | inl t ↦ (k, h, sym t.1, refl, itself k)
  | inr t ↦ elim ((facts causes clock k (made k h)).from a t.1) [
    | inl none ↦ absurd (omega arith)
    | inr x ↦ (
        let d = x.1 in
        let less = d.1 in
        let equal = x.2 in
        let s = source causes clock made m x.0 a (omega arith) (omega arith) (omega arith) in
        (s.0, s.1, s.2, s.3 ∙ x.2, by k x.0 s.0 d s.4))
  ]
]

sides : (m n : ℕ) → m ≢ n → (m < n) ⊎ (n < m)
sides m zero apart = inr (grind (arith, apart))
sides zero (suc n) apart = inl (omega arith)
sides (suc m) (suc n) apart = elim (sides m n (λ e. apart (ap (λ x. suc x) e))) [ inl l ↦ inl (omega arith) | inr l ↦ inr (omega arith) ]

pub succession : (causes : List Cause) (clock : ℕ → List Entry) → AreClocks causes clock → IsSuccession causes clock
succession causes clock made v k hv hk = (
  λ most.
      let a = writer_of causes v in
      let own = (facts causes clock v (made v hv)).some in
      let at = most a in
      let s = source causes clock made (suc k) k a (omega arith) hk (omega arith) in
      elim (eqb_tells v s.0) [
        | inl t ↦ subst (Succeeds causes k) (sym t.1) s.4
        | inr t ↦ elim (sides v s.0 t.1) [
          | inl less ↦ join causes k s.0 v s.4 (by s.0 v v (s.1, less, inr (sym s.2)) (itself v))
          | inr more ↦ (
              let d : IsDirect causes v s.0 = (hv, more, inr s.2) in
              let own_more = (facts causes clock v (made v hv)).own s.0 d in
              let equal = s.3 in
              absurd (omega arith))
        ]
      ],
  λ s. above causes clock made k v hk s,
)
