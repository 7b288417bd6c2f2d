-- Another put, with its clock, behind the puts of a world.
use Rattle.std.proofs.Common.{◌≡◌, inl, inr, ◌∙◌, ℕ, ◌<◌, true, List, [], ◌∷◌, ◌++◌, length, length-append, refl, sym, ap, subst, arith, eqb-true, eq-eqb}
use Rattle.std.specs.Prelude.{◌==◌, Option, Some, None}
use Rattle.std.proofs.lemmas.Bool.Decides.{eqb_tells}
use Rattle.std.proofs.lemmas.Slice.Eq.{bytes_eq-Decides}
use Rattle.std.proofs.lemmas.Bool.{or_right, or_cases as either}
use Rattle.ring_clock.specs.declared.entry.Entry.{Entry}
use Rattle.ring_clock.specs.Clock.{counter, IsAtMost}
use Rattle.ring_clock.specs.Built.{IsJoinOf, Bumps, IsNext, with_clock}
use Rattle.plan_runs.specs.World.{PutRecord, World, key_of_put, writer_of, seen_of}
use Rattle.plan_runs.specs.Succession.{some_replied, is_direct}
use Rattle.plan_runs.proofs.Changed.{part_new}
use Rattle.plan_runs.proofs.Lasting.{Extends, NamesEnded, direct_stays}
use Rattle.plan_runs.proofs.Succeeding.{direct_parts}
use Rattle.store_parts.specs.Clocks.{AreClocksOf, IsOwn, IsLastOf, IsInputOf}
use Rattle.store_parts.proofs.ClocksOrder.{direct_from, own_direct, facts}
use Rattle.store_parts.proofs.ShownSets.{before}

-- ---- clocks that stay

pub join_same : (clock other : ℕ → List Entry) (In Also : ℕ → Type 0) (d : List Entry) → ((v : ℕ) → In v → Also v) → ((v : ℕ) → Also v → In v) → ((v : ℕ) → In v → other v ≡ clock v) → IsJoinOf clock In d → IsJoinOf other Also d
join_same clock other In Also d to back same j = record {
  above = λ v h. subst (λ (c : List Entry). IsAtMost c d) (sym (same v (back v h))) (j.above v (back v h));
  from = λ x. elim (j.from x) [
    | inl none ↦ inl none
    | inr s ↦ inr (s.0, to s.0 s.1, ap (λ (c : List Entry). counter c x) (same s.0 s.1) ∙ s.2)
  ];
}

pub next_same : (clock other : ℕ → List Entry) (In Also : ℕ → Type 0) (a b : ℕ) (c d : List Entry) → ((v : ℕ) → In v → Also v) → ((v : ℕ) → Also v → In v) → ((v : ℕ) → In v → other v ≡ clock v) → b ≡ a → d ≡ c → IsNext clock In a c → IsNext other Also b d
next_same clock other In Also a b c d to back same writer end n = (
  n.0,
  join_same clock other In Also n.0 to back same n.1,
  subst (λ (e : List Entry). Bumps b n.0 e) (sym end) (subst (λ (z : ℕ). Bumps z n.0 c) (sym writer) n.2),
)

-- puts that are there keep their clocks in a world that extends theirs
pub stays : (w u : World) (clock other : ℕ → List Entry) → Extends w u → NamesEnded w → ((v : ℕ) → v < length w.puts → other v ≡ clock v) → AreClocksOf w clock
    → (k : ℕ) → k < length w.puts → IsNext other (λ v. is_direct u k v ≡ true) (writer_of u k) (other k)
stays w u clock other x named same made k l =
    let direct : (v : ℕ) → is_direct u k v ≡ is_direct w k v = λ v. direct_stays w u x named k v l in
    next_same clock other (λ v. is_direct w k v ≡ true) (λ v. is_direct u k v ≡ true) (writer_of w k) (writer_of u k) (clock k) (other k)
    (λ v h. direct v ∙ h) (λ v h. sym (direct v) ∙ h) (λ v h. same v (let less = (direct_parts w k v h).less in omega arith)) (x.writer k l) (same k l) (made k l)

-- ---- the clock that comes

module _ (w : World) (p : PutRecord) (last : Option ℕ) (clock : ℕ → List Entry) (made : AreClocksOf w clock) (lasts : IsLastOf w p.writer p.key last) where
  abbrev n : ℕ
  n = length w.puts

  abbrev more : World
  more = record w { puts = w.puts ++ p ∷ [] }

  -- of the writer's puts of the key the last is an input, and none has a clock that is above its clock
  reach_last : (o : Option ℕ) → IsLastOf w p.writer p.key o → (v : ℕ) → IsOwn w p.writer p.key v → (x : ℕ) × IsInputOf w p.seen o x × IsAtMost (clock v) (clock x)
  reach_last None none v own = absurd (none v own)
  reach_last (Some x) some v own = elim (eqb_tells v x) [
    | inl t ↦ (v, inr (ap (λ (z : ℕ). Some z) (sym t.1)), λ y. omega arith)
    | inr t ↦ (
        let most = some.1 v own in
        let apart = t.1 in
        let mine = some.0 in
        (x, inr refl, (facts w clock made x mine.0).above v (own_direct w x v (omega arith) mine.0 (mine.2 ∙ sym own.2) (mine.1 ∙ sym own.1))))
  ]

  module _ (x : Extends w more) (fits : (v : ℕ) → some_replied w.gets p.seen v ≡ true → (v < length w.puts) × (key_of_put w v ≡ p.key)) where
    key_new : key_of_put more n ≡ p.key
    key_new = part_new (λ (r : PutRecord). r.key) [] w.puts p n refl

    writer_new : writer_of more n ≡ p.writer
    writer_new = part_new (λ (r : PutRecord). r.writer) 0 w.puts p n refl

    seen_new : seen_of more n ≡ p.seen
    seen_new = part_new (λ (r : PutRecord). r.seen) [] w.puts p n refl

    exists : n < length more.puts
    exists = (let l = length-append w.puts (p ∷ []) in omega arith)

    -- a direct predecessor is an input, or an input's clock is not below its clock
    reach : (v : ℕ) → is_direct more n v ≡ true → (u : ℕ) × IsInputOf w p.seen last u × IsAtMost (clock v) (clock u)
    reach v d =
        let q = direct_parts more n v d in
        let l : v < n = q.less in
        let key : key_of_put w v ≡ p.key = sym (x.key v l) ∙ sym ((bytes_eq-Decides (key_of_put more n) (key_of_put more v)).0 q.same_key) ∙ key_new in
        elim (either (writer_of more n == writer_of more v) (some_replied w.gets (seen_of more n) v) q.known) [
          | inl e ↦ reach_last last lasts v (l, sym (x.writer v l) ∙ sym (eqb-true (writer_of more n) (writer_of more v) e) ∙ writer_new, key)
          | inr e ↦ (v, inl (subst (λ (gs : List ℕ). some_replied w.gets gs v ≡ true) seen_new e), λ y. omega arith)
        ]

    -- an input is a direct predecessor
    input_is : (v : ℕ) → IsInputOf w p.seen last v → (v < length w.puts) × (is_direct more n v ≡ true)
    input_is v (inl e) =
        let f = fits v e in
        let asked : some_replied w.gets (seen_of more n) v ≡ true = subst (λ (gs : List ℕ). some_replied w.gets gs v ≡ true) (sym seen_new) e in
        (f.0, direct_from more n v f.0 exists (key_new ∙ sym f.1 ∙ sym (x.key v f.0)) (or_right (writer_of more n == writer_of more v) (some_replied w.gets (seen_of more n) v) asked))
    input_is v (inr e) =
        let own = (subst (λ (o : Option ℕ). IsLastOf w p.writer p.key o) e lasts).0 in
        (own.0, own_direct more n v own.0 exists (key_new ∙ sym own.2 ∙ sym (x.key v own.0)) (writer_new ∙ sym own.1 ∙ sym (x.writer v own.0)))

    next_is : (c : List Entry) → IsNext clock (IsInputOf w p.seen last) p.writer c → IsNext (with_clock clock n c) (λ v. is_direct more n v ≡ true) (writer_of more n) (with_clock clock n c n)
    next_is c next =
        let old : (v : ℕ) → v < length w.puts → with_clock clock n c v ≡ clock v = before clock n c in
        let end : with_clock clock n c n ≡ c = rw (eq-eqb n n refl) refl in
        let join : IsJoinOf (with_clock clock n c) (λ v. is_direct more n v ≡ true) next.0 = record {
          above = λ v d. (
              let r = reach v d in
              let l : v < n = (direct_parts more n v d).less in
              let all = next.1.above r.0 r.1 in
              subst (λ (e : List Entry). IsAtMost e next.0) (sym (old v l)) (λ y. (let a = r.2 y in let b = all y in omega arith)));
          from = λ y. elim (next.1.from y) [
            | inl none ↦ inl none
            | inr s ↦ (let i = input_is s.0 s.1 in inr (s.0, i.1, ap (λ (e : List Entry). counter e y) (old s.0 i.0) ∙ s.2))
          ];
        } in
        (next.0, join, subst (λ (e : List Entry). Bumps (writer_of more n) next.0 e) (sym end) (subst (λ (z : ℕ). Bumps z next.0 c) (sym writer_new) next.2))

    pub put_clocks : (c : List Entry) → NamesEnded w → IsNext clock (IsInputOf w p.seen last) p.writer c → AreClocksOf more (with_clock clock n c)
    put_clocks c named next k h = elim (eqb_tells k n) [
      | inl t ↦ subst (λ (z : ℕ). IsNext (with_clock clock n c) (λ v. is_direct more z v ≡ true) (writer_of more z) (with_clock clock n c z)) (sym t.1) (next_is c next)
      | inr t ↦ stays w more clock (with_clock clock n c) x named (before clock n c) made k (let l = length-append w.puts (p ∷ []) in let apart = t.1 in omega arith)
    ]
