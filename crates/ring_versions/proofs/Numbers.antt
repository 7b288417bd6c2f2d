-- Numbers of puts: those that a list has, in order.
use Rattle.std.proofs.Common.{◌≡◌, ◌⊎◌, inl, inr, ◌∙◌, ℕ, Bool, true, false, List, [], ◌∷◌, refl, sym, ap, map}
use Rattle.std.specs.Prelude.{◌||◌, ◌==◌, nat_lt}
use Rattle.std.specs.List.{dedup}
use Rattle.std.specs.List.Retain.{IsFiltered, DiffersFromLast}
use Rattle.std.proofs.lemmas.List.Filters.{dedup_is}
use Rattle.std.proofs.lemmas.List.Kept.{IsStrictlySortedBy-dedup}
use Rattle.std.proofs.lemmas.List.Sorted.{list_any-IsPermutation}
use Rattle.std.proofs.lemmas.Cmp.{nat_cmp_total}
use Rattle.std.specs.Cmp.{unsigned_ties}
use Rattle.std.specs.List.Sorted.{IsPermutation, IsSorted, IsStrictlySortedBy}
use Rattle.std.specs.Ordering.{nat_cmp}
use Rattle.std.proofs.lemmas.Bool.{eqb-true, eq-eqb, and_from}
use Rattle.ring_names.specs.Lists.{has}
use Rattle.ring_names.proofs.Logic.{first_less}
use Rattle.ring_names.proofs.InLists.{has_any, has_dedup}
use Rattle.texts.specs.Numbers.{ascending}
use Rattle.ring_versions.specs.declared.version.Version.{Version}
use Rattle.ring_versions.specs.Versions.{IsIn}
use Rattle.ring_versions.specs.Puts.{ArePuts}
use Rattle.std.proofs.lemmas.Bool.{or_right}

-- ---- the same numbers, in order

-- each number is below those after it
sorted_ascends : (xs : List ℕ) → IsStrictlySortedBy nat_cmp xs → ascending xs ≡ true
unfolding IsStrictlySortedBy
sorted_ascends [] h = refl
sorted_ascends (x ∷ []) h = refl
sorted_ascends (x ∷ y ∷ ys) h = and_from (nat_lt x y) (ascending (y ∷ ys)) (first_less (nat_lt x y) (x == y) h.0.0) (sorted_ascends (y ∷ ys) h.1)

-- ---- the numbers of versions

put_has : (v : Version) (vs : List Version) → IsIn v vs → has v.put (map (λ (w : Version). w.put) vs) ≡ true
put_has v [] h = absurd h
put_has v (x ∷ xs) h = elim h [
  | inl is ↦ first (v.put == x.put) (has v.put (map (λ (w : Version). w.put) xs)) (eq-eqb v.put x.put (sym (ap (λ (w : Version). w.put) is)))
  | inr more ↦ or_right (v.put == x.put) (has v.put (map (λ (w : Version). w.put) xs)) (put_has v xs more)
]
  where
    first : (a b : Bool) → a ≡ true → (a || b) ≡ true
    first true b h = refl
    first false b h = absurd cc

has_put : (n : ℕ) (vs : List Version) → has n (map (λ (w : Version). w.put) vs) ≡ true → (v : Version) × IsIn v vs × (v.put ≡ n)
has_put n [] h = absurd cc
has_put n (x ∷ xs) h = elim (either (n == x.put) (has n (map (λ (w : Version). w.put) xs)) h) [
  | inl is ↦ (x, inl refl, sym (eqb-true n x.put is))
  | inr more ↦ (let found = has_put n xs more in (found.0, inr found.1, found.2))
]
  where
    either : (a b : Bool) → (a || b) ≡ true → (a ≡ true) ⊎ (b ≡ true)
    either true b h = inl refl
    either false b h = inr h

-- what is sorted, and then has no number twice, has the numbers that it had in order
pub puts_in_order : (held : List Version) (numbers sorted ns : List ℕ) → numbers ≡ map (λ (v : Version). v.put) held → IsPermutation numbers sorted → IsSorted nat_cmp sorted → IsFiltered (DiffersFromLast (λ (n m : ℕ). n == m)) [] sorted ns → ArePuts held ns
puts_in_order held numbers sorted ns are p order unlike =
    let e = dedup_is (λ (n m : ℕ). n == m) sorted ns unlike in
    let same : (x : ℕ) → has x ns ≡ has x (map (λ (v : Version). v.put) held) = λ x.
    ap (has x) e ∙ has_dedup x sorted ∙ has_any x sorted ∙ sym (list_any-IsPermutation (λ (y : ℕ). x == y) numbers sorted p) ∙ sym (has_any x numbers) ∙ ap (has x) are in
    record {
      rises = ap ascending e ∙ sorted_ascends (dedup (λ (n m : ℕ). n == m) sorted) (IsStrictlySortedBy-dedup nat_cmp_total unsigned_ties sorted order);
      each = λ v h. same v.put ∙ put_has v held h;
      only = λ n h. has_put n held (sym (same n) ∙ h);
    }
