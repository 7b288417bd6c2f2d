-- The entries of a map that are left to go through.
use Rattle.std.proofs.Common.{◌≡◌, ◌≢◌, ◌∙◌, ℕ, Bool, false, List, [], ◌∷◌, length, refl, sym, ap, subst, Option, Some, None, arith, Bor}
use Rattle.std.specs.Prelude.{IsTrue, is_some}
use Rattle.std.specs.Iterator.{Yields}
use Rattle.std.specs.List.Sorted.{IsStrictlySortedBy}
use Rattle.std.specs.Option.{option_or}
use Rattle.std.specs.Ordering.{nat_cmp}
use Rattle.ring_versions.specs.declared.version.Version.{Version}
use Rattle.store_maps.specs.Entries.{entries_of, left_of, TakesNext}
use Rattle.store_maps.specs.Places.{value_in}
use Rattle.store_maps.specs.Sorted.{Ascends, PutsAt}
use Rattle.store_maps.specs.Trees.{tree_entry}
use Rattle.store_maps.specs.declared.key_tree.KeyTree.{KeyTree}
use Rattle.store_maps.specs.declared.walk.Walk.{Walk}
use Rattle.store_maps.proofs.Sorted.{number_order, by_key, first_is, later_is, none_later}

module _ {X : Type 0} (key : ℕ) (x : X) (rest later : List (ℕ × X)) (is : rest ≡ (key, x) ∷ later) where
  pub first_in : value_in rest key ≡ Some x
  first_in = ap (λ es. value_in es key) is ∙ first_is number_order (key, x) later

  pub later_in : (k : ℕ) → k ≢ key → value_in rest k ≡ value_in later k
  later_in k ne = ap (λ es. value_in es k) is ∙ later_is number_order (key, x) later k ne

-- a map with no entry has no place, and one that has an entry has its place
pub no_places : {X : Type 0} (es : List (ℕ × X)) (b : Bool) → (IsTrue b → length es ≡ 0) → (length es ≡ 0 → IsTrue b)
    → (IsTrue b → (k : ℕ) → is_some (value_in es k) ≡ false) × (((k : ℕ) → is_some (value_in es k) ≡ false) → IsTrue b)
no_places [] b f g = (λ h k. refl, λ h. g refl)
no_places (e ∷ es) b f g = (
  λ h. absurd (let z = f h in omega arith),
  λ h. absurd (let here = first_is number_order e es in let there = h e.0 in cc),
)

-- ---- a walk over entries in order

-- the entries left are of these, and ascend
pub record Left {X : Type 0} (all rest : List (ℕ × X)) : Type 0 where
  pub order : Ascends nat_cmp rest
  pub each : (k : ℕ) (x : X) → value_in rest k ≡ Some x → value_in all k ≡ Some x

pub left_all : {X : Type 0} (all : List (ℕ × X)) → Ascends nat_cmp all → Left all all
left_all all order = record { order = order; each = λ k x h. h }

module _ {X : Type 0} (all rest later : List (ℕ × X)) (key : ℕ) (x : X) (is : rest ≡ (key, x) ∷ later) (s : Left all rest) where
  pub left_first : value_in all key ≡ Some x
  left_first = s.each key x (first_in key x rest later is)

  pub left_more : Left all later
  unfolding IsStrictlySortedBy
  left_more = record {
    order = sorted.1;
    each = λ k y. by_key number_order key (λ (k : ℕ). value_in later k ≡ Some y → value_in all k ≡ Some y)
        (λ h. absurd (let none = none_later number_order key later sorted.0 in cc))
        (λ k e h. s.each k y (later_in key x rest later is k e ∙ h)) k;
  }
    where
      sorted : Ascends nat_cmp ((key, x) ∷ later)
      sorted = subst (Ascends nat_cmp) is s.order

-- the item of a turn is what the entries have at its key
pub found : (all : List (ℕ × List Version)) (xs : List (Bor ℕ × Bor (List Version))) (s t u : Walk) (r : Option (Bor ℕ × Bor (List Version))) (x : Bor ℕ × Bor (List Version))
    → Yields TakesNext s xs t → r ≡ Some x → TakesNext t r u → left_of s ≡ all → Ascends nat_cmp all → value_in all x.0.now ≡ Some x.1.now
found all xs s t u r x run is step start order =
    left_first all (left_of t) (left_of u) x.0.now x.1.now (subst (λ o. TakesNext t o u) is step) (after xs s t run (subst (Left all) (sym start) (left_all all order)))
  where
    after : (xs : List (Bor ℕ × Bor (List Version))) (s t : Walk) → Yields TakesNext s xs t → Left all (left_of s) → Left all (left_of t)
    after [] s t e l = subst (λ w. Left all (left_of w)) e l
    after (y ∷ ys) s t e l = after ys e.0 t e.2 (left_more all (left_of s) (left_of e.0) y.0.now y.1.now e.1 l)

-- what is copied so far, with some entries left
pub record Filling {X : Type 0} (from copy rest : List (ℕ × X)) : Type 0 where
  pub order : Ascends nat_cmp copy
  pub left : Left from rest
  pub done : (k : ℕ) → value_in rest k ≡ None → value_in copy k ≡ value_in from k

pub filling_more : {X : Type 0} (from copy more rest later : List (ℕ × X)) (key : ℕ) (x : X)
    → rest ≡ (key, x) ∷ later → Ascends nat_cmp more → PutsAt nat_cmp copy more key x → Filling from copy rest → Filling from more later
filling_more from copy more rest later key x is order put s = record {
  order = order;
  left = left_more from rest later key x is s.left;
  done = by_key number_order key (λ (k : ℕ). value_in later k ≡ None → value_in more k ≡ value_in from k)
      (λ none. put.here ∙ sym (left_first from rest later key x is s.left))
      (λ k e none. put.others k e ∙ s.done k (later_in key x rest later is k e ∙ none));
}

pub filled : {X : Type 0} (from copy rest : List (ℕ × X)) → length rest ≡ 0 → Filling from copy rest → (k : ℕ) → value_in copy k ≡ value_in from k
filled from copy [] h s k = s.done k refl
filled from copy (x ∷ xs) h s k = absurd (omega arith)

-- what was put over a tree so far, with some entries left
pub record Putting (from old now : KeyTree) (rest : List (ℕ × List Version)) : Type 0 where
  pub done : (k : ℕ) → value_in rest k ≡ None → tree_entry now k ≡ option_or (tree_entry from k) (tree_entry old k)
  pub others : (k : ℕ) → tree_entry from k ≡ None → tree_entry now k ≡ tree_entry old k

pub putting_none : (from old : KeyTree) → Putting from old old (entries_of from.entries)
putting_none from old = record { done = λ k none. rw none refl; others = λ k none. refl }

pub putting_more : (from old now more : KeyTree) (rest later : List (ℕ × List Version)) (key : ℕ) (v : List Version)
    → rest ≡ (key, v) ∷ later → tree_entry from key ≡ Some v → PutsAt nat_cmp (entries_of now.entries) (entries_of more.entries) key v → Putting from old now rest → Putting from old more later
putting_more from old now more rest later key v is at put s = record {
  done = by_key number_order key (λ (k : ℕ). value_in later k ≡ None → tree_entry more k ≡ option_or (tree_entry from k) (tree_entry old k))
      (λ none. rw at put.here)
      (λ k e none. put.others k e ∙ s.done k (later_in key v rest later is k e ∙ none));
  others = by_key number_order key (λ (k : ℕ). tree_entry from k ≡ None → tree_entry more k ≡ tree_entry old k)
      (λ none. absurd cc)
      (λ k e none. put.others k e ∙ s.others k none);
}
