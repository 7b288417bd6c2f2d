-- The order of the clocks of a world's puts is succession.
use Rattle.std.proofs.Common.{◌≡◌, inl, inr, ◌∙◌, ℕ, zero, suc, ◌<◌, ◌≤◌, true, List, length, refl, sym, subst, arith, lt-ltb, eq-eqb}
use Rattle.std.specs.Prelude.{◌↔◌, ◌&&◌, ◌==◌, nat_lt}
use Rattle.std.specs.Str.{bytes_eq}
use Rattle.std.proofs.lemmas.Bool.Decides.{eqb_tells}
use Rattle.std.proofs.lemmas.Slice.Eq.{bytes_eq-Decides}
use Rattle.std.proofs.lemmas.Bool.{and_from, cases_lt, or_left}
use Rattle.ring_clock.specs.declared.entry.Entry.{Entry}
use Rattle.ring_clock.specs.Clock.{counter, IsAtMost}
use Rattle.ring_clock.proofs.Causing.{Follows, follows}
use Rattle.plan_runs.specs.World.{World, key_of_put, writer_of, seen_of}
use Rattle.plan_runs.specs.Succession.{some_replied, is_direct, Succeeds, itself, by}
use Rattle.plan_runs.proofs.Lasting.{succeeds_same_key}
use Rattle.plan_runs.proofs.Succeeding.{is_known, direct_parts, succeeds_through}
use Rattle.store_parts.specs.Clocks.{AreClocksOf}

pub direct_from : (w : World) (u v : ℕ) → v < u → u < length w.puts → key_of_put w u ≡ key_of_put w v → is_known w u v ≡ true → is_direct w u v ≡ true
direct_from w u v less exists key known =
    let same : bytes_eq (key_of_put w u) (key_of_put w v) ≡ true = (bytes_eq-Decides (key_of_put w u) (key_of_put w v)).1 key in
    let a = and_from (nat_lt v u) (nat_lt u (length w.puts)) (lt-ltb v u less) (lt-ltb u (length w.puts) exists) in
    let b = and_from (nat_lt v u && nat_lt u (length w.puts)) (bytes_eq (key_of_put w u) (key_of_put w v)) a same in
    and_from (nat_lt v u && nat_lt u (length w.puts) && bytes_eq (key_of_put w u) (key_of_put w v)) (is_known w u v) b known

-- a writer's put succeeds its earlier ones of the key
pub own_direct : (w : World) (u v : ℕ) → v < u → u < length w.puts → key_of_put w u ≡ key_of_put w v → writer_of w u ≡ writer_of w v → is_direct w u v ≡ true
own_direct w u v less exists key writer = direct_from w u v less exists key (or_left (writer_of w u == writer_of w v) (some_replied w.gets (seen_of w u) v) (eq-eqb (writer_of w u) (writer_of w v) writer))

module _ (w : World) (clock : ℕ → List Entry) (made : AreClocksOf w clock) where
  pub facts : (k : ℕ) → k < length w.puts → Follows clock (λ v. is_direct w k v ≡ true) (writer_of w k) (clock k)
  facts k l = (let n = made k l in follows clock (λ v. is_direct w k v ≡ true) (writer_of w k) n.0 (clock k) n.1 n.2)

  -- a put that is succeeded has a clock that is at most the other's
  pub above : (u v : ℕ) → u < length w.puts → Succeeds w u v → IsAtMost (clock v) (clock u)
  above u v l (itself _) = λ x. omega arith
  above u v l (by _ m _ d s) =
      let less = (direct_parts w u m d).less in
      let rest = above m v (omega arith) s in
      let one = (facts u l).above m d in
      λ x. (let a = rest x in let b = one x in omega arith)

  -- the put of writer a that gave put k its counter of a
  abbrev Source : ℕ → ℕ → Type 0
  Source k a = (j : ℕ) × (j < length w.puts) × (writer_of w j ≡ a) × (counter (clock j) a ≡ counter (clock k) a) × Succeeds w k j

  source : (m k a : ℕ) → k < m → k < length w.puts → 0 < counter (clock k) a → Source k a
  source zero k a l h some = absurd (omega arith)
  source (suc m) k a l h some = elim (eqb_tells a (writer_of w k)) [
    | inl t ↦ (k, h, sym t.1, refl, itself k)
    | inr t ↦ elim ((facts k h).from a t.1) [
      | inl none ↦ absurd (omega arith)
      | inr x ↦ (
          let less = (direct_parts w k x.0 x.1).less in
          let equal = x.2 in
          let s = source m x.0 a (omega arith) (omega arith) (omega arith) in
          (s.0, s.1, s.2, s.3 ∙ x.2, by k x.0 s.0 x.1 s.4))
    ]
  ]

  -- a put whose clock reaches another put's own counter, both of one key, succeeds it
  reaches : (u v : ℕ) → u < length w.puts → v < length w.puts → key_of_put w u ≡ key_of_put w v → counter (clock v) (writer_of w v) ≤ counter (clock u) (writer_of w v) → Succeeds w u v
  reaches u v l m key at =
      let a = writer_of w v in
      let own = (facts v m).some in
      let s = source (suc u) u a (omega arith) l (omega arith) in
      let same : key_of_put w s.0 ≡ key_of_put w v = sym (succeeds_same_key w u s.0 s.4) ∙ key in
      let equal = s.3 in
      elim (cases_lt v s.0) [
        | inl less ↦ succeeds_through w u s.0 v s.4 (by s.0 v v (own_direct w s.0 v less s.1 same s.2) (itself v))
        | inr least ↦ elim (cases_lt s.0 v) [
          | inl more ↦ absurd (let own_more = (facts v m).own s.0 (own_direct w v s.0 more m (sym same) (sym s.2)) in omega arith)
          | inr most_too ↦ (let e : s.0 ≡ v = omega arith in subst (λ (z : ℕ). Succeeds w u z) e s.4)
        ]
      ]

  pub own_tells : (u v : ℕ) → u < length w.puts → v < length w.puts → key_of_put w u ≡ key_of_put w v → counter (clock v) (writer_of w v) ≤ counter (clock u) (writer_of w v) → IsAtMost (clock v) (clock u)
  own_tells u v l m key at = above u v l (reaches u v l m key at)

  pub tells : (u v : ℕ) → u < length w.puts → v < length w.puts → key_of_put w u ≡ key_of_put w v → IsAtMost (clock v) (clock u) ↔ Succeeds w u v
  tells u v l m key = (λ most. reaches u v l m key (most (writer_of w v)), λ s. above u v l s)
