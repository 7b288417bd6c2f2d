-- Of the puts of one key, succession in the world is succession among their causes.
use Rattle.std.proofs.Common.{◌≡◌, ◌⊎◌, inl, inr, ◌∙◌, ℕ, zero, suc, ◌<◌, true, List, [], ◌∷◌, length, get_or, refl, sym, ap, subst, arith, lt-ltb, eqb-true, eq-eqb}
use Rattle.std.specs.Prelude.{◌&&◌, ◌==◌, nat_lt}
use Rattle.std.specs.Str.{bytes_eq}
use Rattle.std.proofs.lemmas.Slice.Eq.{bytes_eq-Decides}
use Rattle.std.proofs.lemmas.Bool.{or_right, and_from, cases_lt, or_cases, or_left}
use Rattle.ring_names.specs.Lists.{has}
use Rattle.ring_clock.specs.declared.causes.Cause.{Cause}
use Rattle.ring_clock.specs.Causes as causes
use Rattle.plan_runs.specs.World.{World, key_of_put, writer_of, seen_of, is_of_key}
use Rattle.plan_runs.specs.Succession.{some_replied, Succeeds, itself, by}
use Rattle.plan_runs.specs.Causes.{puts_of, AreCausesOf, AgreeOn}
use Rattle.plan_runs.proofs.Passing.{below_is, is_below, passing_ascend, at_place}
use Rattle.plan_runs.proofs.Prefix.{found}
use Rattle.plan_runs.proofs.Succeeding.{is_known, direct_parts}
use Rattle.plan_text.proofs.Searched.{ascends-below}

module _ (w : World) (key : List ℕ) (list : List Cause) (are : AreCausesOf w (puts_of w key) list) where
  abbrev ns : List ℕ
  ns = puts_of w key

  abbrev at : ℕ → ℕ
  at k = get_or ns k 0

  rise : (i j : ℕ) → i < j → j < length ns → at i < at j
  rise i j l m = ascends-below ns (passing_ascend 0 (length w.puts) (is_of_key w key)) i j l m

  -- a place among the key's puts has a put of the key
  of_key : (k : ℕ) → k < length ns → (at k < length w.puts) × (is_of_key w key (at k) ≡ true)
  of_key k l = below_is (length w.puts) (is_of_key w key) (at k) (at_place ns k l)

  is_key : (u : ℕ) → is_of_key w key u ≡ true → key_of_put w u ≡ key
  is_key u h = (bytes_eq-Decides (key_of_put w u) key).0 h

  same_key : (u v : ℕ) → is_of_key w key u ≡ true → is_of_key w key v ≡ true → bytes_eq (key_of_put w u) (key_of_put w v) ≡ true
  same_key u v h g = (bytes_eq-Decides (key_of_put w u) (key_of_put w v)).1 (is_key u h ∙ sym (is_key v g))

  also_key : (u v : ℕ) → is_of_key w key u ≡ true → bytes_eq (key_of_put w u) (key_of_put w v) ≡ true → is_of_key w key v ≡ true
  also_key u v h g = (bytes_eq-Decides (key_of_put w v) key).1 (sym ((bytes_eq-Decides (key_of_put w u) (key_of_put w v)).0 g) ∙ is_key u h)

  same_place : (k j : ℕ) → k < length ns → j < length ns → at k ≡ at j → k ≡ j
  same_place k j l m e = elim (cases_lt k j) [
    | inl h ↦ absurd (let r = rise k j h m in omega arith)
    | inr h ↦ elim (cases_lt j k) [
      | inl g ↦ absurd (let r = rise j k g l in omega arith)
      | inr g ↦ omega arith
    ]
  ]

  earlier : (k i : ℕ) → k < length ns → i < length ns → at i < at k → i < k
  earlier k i l m less = elim (cases_lt i k) [
    | inl h ↦ h
    | inr h ↦ elim (cases_lt k i) [
      | inl g ↦ absurd (let r = rise k i g m in omega arith)
      | inr g ↦ absurd (let e : k ≡ i = omega arith in let r : at k ≡ at i = ap at e in omega arith)
    ]
  ]

  knows : (k i : ℕ) → k < length ns → i < k → is_known w (at k) (at i) ≡ true → (has i (causes.seen_by list k) ≡ true) ⊎ (causes.writer_of list i ≡ causes.writer_of list k)
  knows k i l less h = elim (or_cases (writer_of w (at k) == writer_of w (at i)) (some_replied w.gets (seen_of w (at k)) (at i)) h) [
    | inl e ↦ inr (are.writers i (omega arith) ∙ sym (eqb-true (writer_of w (at k)) (writer_of w (at i)) e) ∙ sym (are.writers k l))
    | inr r ↦ inl ((are.seen k i l).1 (less, r))
  ]

  known : (k i : ℕ) → k < length ns → i < k → (has i (causes.seen_by list k) ≡ true) ⊎ (causes.writer_of list i ≡ causes.writer_of list k) → is_known w (at k) (at i) ≡ true
  known k i l less (inl h) = or_right (writer_of w (at k) == writer_of w (at i)) (some_replied w.gets (seen_of w (at k)) (at i)) ((are.seen k i l).0 h).1
  known k i l less (inr h) =
      let e : writer_of w (at k) ≡ writer_of w (at i) = sym (are.writers k l) ∙ sym h ∙ are.writers i (omega arith) in
      or_left (writer_of w (at k) == writer_of w (at i)) (some_replied w.gets (seen_of w (at k)) (at i)) (eq-eqb (writer_of w (at k)) (writer_of w (at i)) e)

  to_causes : (u v : ℕ) → Succeeds w u v → (k j : ℕ) → k < length ns → j < length ns → u ≡ at k → v ≡ at j → causes.Succeeds list k j
  to_causes u v (itself _) k j l m e f = subst (λ (z : ℕ). causes.Succeeds list k z) (same_place k j l m (sym e ∙ f)) (causes.itself k)
  to_causes u v (by _ b _ d r) k j l m e f =
      let p = direct_parts w u b d in
      let of : is_of_key w key u ≡ true = subst (λ (z : ℕ). is_of_key w key z ≡ true) (sym e) (of_key k l).1 in
      let less : b < u = p.less in
      let exists : u < length w.puts = p.exists in
      let i = found b ns (is_below (length w.puts) (is_of_key w key) b (omega arith) (also_key u b of p.same_key)) in
      let at_i : at i.0 ≡ b = i.2 in
      let before : i.0 < k = earlier k i.0 l i.1 (omega arith) in
      let same : is_known w (at k) (at i.0) ≡ true = subst (λ (z : ℕ). is_known w z (at i.0) ≡ true) e (subst (λ (z : ℕ). is_known w u z ≡ true) (sym at_i) p.known) in
      let each = are.each in
      causes.by k i.0 j (omega arith, before, knows k i.0 l before same) (to_causes b v r i.0 j i.1 m (sym at_i) f)

  to_world : (k j : ℕ) → causes.Succeeds list k j → k < length ns → Succeeds w (at k) (at j)
  to_world k j (causes.itself _) l = itself (at k)
  to_world k j (causes.by _ i _ d r) l =
      let less : i < k = d.1 in
      let here = of_key k l in
      let there = of_key i (omega arith) in
      let a = and_from (nat_lt (at i) (at k)) (nat_lt (at k) (length w.puts)) (lt-ltb (at i) (at k) (rise i k less l)) (lt-ltb (at k) (length w.puts) here.0) in
      let b = and_from (nat_lt (at i) (at k) && nat_lt (at k) (length w.puts)) (bytes_eq (key_of_put w (at k)) (key_of_put w (at i))) a (same_key (at k) (at i) here.1 there.1) in
      by (at k) (at i) (at j) (and_from (nat_lt (at i) (at k) && nat_lt (at k) (length w.puts) && bytes_eq (key_of_put w (at k)) (key_of_put w (at i))) (is_known w (at k) (at i)) b (known k i l less d.2)) (to_world i j r (omega arith))

pub agree : (w : World) (key : List ℕ) (list : List Cause) → AreCausesOf w (puts_of w key) list → AgreeOn w (puts_of w key) list
agree w key list are k j l m = (
  λ s. to_causes w key list are (get_or (puts_of w key) k 0) (get_or (puts_of w key) j 0) s k j l m refl refl,
  λ s. to_world w key list are k j s l,
)

-- only causes that there are see puts
seen_within : (list : List Cause) (k v : ℕ) → has v (causes.seen_by list k) ≡ true → k < length list
seen_within [] k v e = absurd cc
seen_within (c ∷ cs) zero v e = omega arith
seen_within (c ∷ cs) (suc k) v e = (let l = seen_within cs k v e in omega arith)

pub see_earlier : (w : World) (key : List ℕ) (list : List Cause) → AreCausesOf w (puts_of w key) list → causes.IsEarlier list
see_earlier w key list are k v e =
    let l = seen_within list k v e in
    let each = are.each in
    ((are.seen k v (omega arith)).0 e).0
