-- Which ends are kept.
use Rattle.std.proofs.Common.{◌≡◌, inl, inr, ◌∙◌, ℕ, ◌-◌, ◌<◌, Bool, false, List, [], ◌∷◌, ◌++◌, length, get_or, Result, Ok, Err, refl, sym, ap, subst, arith}
use Rattle.std.specs.Prelude.{◌&&◌, ◌||◌, ◌==◌, slice_get, Some, is_ok}
use Rattle.std.specs.List.{list_any}
use Rattle.std.specs.List.Sorted.{IsPermutation, IsBinarySearchResult, IsSearchInRange}
use Rattle.std.specs.Ordering.{nat_cmp, is_eq}
use Rattle.std.specs.Cmp.{IsTotalOrder, unsigned_ties, tied_then}
use Rattle.std.proofs.lemmas.Bool.{cases_lt}
use Rattle.std.proofs.lemmas.Cmp.{nat_cmp_total, on_total, then_total}
use Rattle.std.proofs.lemmas.List.Elements.{All-from_get_or}
use Rattle.std.proofs.lemmas.List.Folds.{list_any_at, list_any_none}
use Rattle.std.proofs.lemmas.List.Sorted.{list_any-IsPermutation, searchable_from_sorted}
use Rattle.ring_names.proofs.Logic.{or_swapped, or_false}
use Rattle.plan_order.specs.declared.facts.Ends.{Ends}
use Rattle.plan_order.specs.Facts.{ends_with, leads, has_ends, by_ends, AreSorted}

-- whether these are the ends a and b
abbrev are_ends : ℕ → ℕ → Ends → Bool
are_ends a b e = (e.first == a) && (e.last == b)

as_any : (a b : ℕ) (es : List Ends) → has_ends a b es ≡ list_any (are_ends a b) es
as_any a b [] = refl
as_any a b (e ∷ es) = ap (λ (t : Bool). are_ends a b e || t) (as_any a b es)

-- the ends that are asked for once some were added
pub added : (e : Ends) (es : List Ends) (a b : ℕ) → has_ends a b (es ++ e ∷ []) ≡ (((e.first == a) && (e.last == b)) || has_ends a b es)
added e [] a b = refl
added e (x ∷ es) a b =
    ap (λ (t : Bool). are_ends a b x || t) (added e es a b) ∙ or_swapped (are_ends a b x) (are_ends a b e) (has_ends a b es)

-- those of the paths that were added to none, in another order
pub made : (old new sorted : List Ends) → old ≡ [] → IsPermutation new sorted → (a b : ℕ) (t : Bool) → has_ends a b new ≡ (t || has_ends a b old) → has_ends a b sorted ≡ t
made old new sorted none p a b t is =
    as_any a b sorted ∙ sym (list_any-IsPermutation (are_ends a b) new sorted p) ∙ sym (as_any a b new) ∙ is ∙ ap (λ (es : List Ends). t || has_ends a b es) none ∙ or_false t

-- ---- a search

ends_total : IsTotalOrder by_ends
ends_total = then_total (on_total (λ (e : Ends). e.first) nat_cmp_total) (on_total (λ (e : Ends). e.last) nat_cmp_total)

-- the ends that compare as equal are the same
tie_is_same : (x y : Ends) → are_ends x.first x.last y ≡ is_eq (by_ends y x)
tie_is_same x y =
    sym (sym (tied_then (nat_cmp y.first x.first) (nat_cmp y.last x.last)) ∙ rw (← unsigned_ties y.first x.first, ← unsigned_ties y.last x.last) refl)

pub looked_up : (x : Ends) (es : List Ends) (r : Result ℕ ℕ) → AreSorted es → IsSearchInRange r (length es) → IsBinarySearchResult (λ y. by_ends y x) es r → is_ok r ≡ has_ends x.first x.last es
looked_up x es (Ok i) sorted within found =
    sym (as_any x.first x.last es ∙ list_any_at (are_ends x.first x.last) es i x within (tie_is_same x (get_or es i x) ∙ ap is_eq (found x)))
looked_up x es (Err i) sorted within found =
    let p = found (searchable_from_sorted ends_total (λ (y : Ends). y) es x sorted) in
    let apart : (k : ℕ) → k < length es → are_ends x.first x.last (get_or es k x) ≡ false = λ k l. tie_is_same x (get_or es k x) ∙ (elim (cases_lt k i) [
      | inl low ↦ ap is_eq (p.0 k x (omega arith) low)
      | inr high ↦ ap is_eq (p.1 k x high l)
    ]) in
    sym (as_any x.first x.last es ∙ list_any_none (are_ends x.first x.last) es (All-from_get_or (λ y. are_ends x.first x.last y ≡ false) es x apart))

-- ---- the ends of a path

last_is : (x : ℕ) (xs : List ℕ) (b z : ℕ) → Some z ≡ slice_get (x ∷ xs) (length xs) → ends_with b (x ∷ xs) ≡ (z == b)
last_is x [] b z e = (let same : z ≡ x = cc in rw same refl)
last_is x (y ∷ ys) b z e = last_is y ys b z e

pub ends_of : (path : List ℕ) (y z : ℕ) → Some y ≡ slice_get path 0 → Some z ≡ slice_get path (length path - 1) → (a b : ℕ) → leads a b path ≡ ((y == a) && (z == b))
ends_of [] y z f l a b = absurd cc
ends_of (x ∷ xs) y z f l a b =
    let same : y ≡ x = cc in
    let at : length (x ∷ xs) - 1 ≡ length xs = omega arith in
    rw (same, last_is x xs b z (subst (λ n. Some z ≡ slice_get (x ∷ xs) n) at l)) refl
