-- Lists of step numbers as they grow, and in order.
use Rattle.std.proofs.Common.{◌≡◌, ◌⊎◌, inl, inr, ◌∙◌, ℕ, ◌+◌, ◌<◌, Bool, true, false, cond, List, [], ◌∷◌, ◌++◌, length, refl, sym, ap, arith, below_more, Option, Some, None}
use Rattle.std.specs.Prelude.{◌||◌, ◌&&◌, ◌==◌, nat_lt, slice_get, option_map}
use Rattle.std.specs.List.{list_all, dedup}
use Rattle.std.proofs.lemmas.List.Folds.{list_all-append}
use Rattle.std.proofs.lemmas.List.Kept.{IsStrictlySortedBy-dedup}
use Rattle.std.proofs.lemmas.List.Sorted.{list_any-IsPermutation}
use Rattle.std.proofs.lemmas.Cmp.{nat_cmp_total}
use Rattle.std.specs.Cmp.{unsigned_ties}
use Rattle.std.specs.List.Sorted.{IsPermutation, IsSorted, IsStrictlySortedBy}
use Rattle.texts.specs.Numbers.{ascending}
use Rattle.std.specs.Ordering.{nat_cmp}
use Rattle.std.proofs.lemmas.Bool.{eqb-true, lt-ltb, or_right, and_from, or_cases, or_left}
use Rattle.ring_names.specs.Lists.{has}
use Rattle.ring_names.specs.declared.ids.NodeId.{NodeId}
use Rattle.ring_names.specs.declared.ids.Slot.{Slot}
use Rattle.ring_names.proofs.Logic.{first_less}
use Rattle.ring_names.proofs.InLists.{has_any, has_dedup}
use Rattle.ring_table.specs.Value.{RingValue}
use Rattle.plan_text.specs.declared.step.Step.{Step}
use Rattle.plan_text.specs.declared.step.Planned.{Planned}
use Rattle.plan_text.specs.Steps.{is_on, steps_from, steps_of, is_retire_of, first_step, retirement_of}
use Rattle.plan_stage.specs.Each.{slot_in}
use Rattle.plan_stage.specs.Looking.Gathered.{mirrored_node, are_steps, Grows, HasRetirement, HasStep, HasSlot, IsGathered}
use Rattle.plan_stage.proofs.Truth.{same, list_all-met, list_all-all}
use Rattle.ring_names.proofs.Logic.{or_swapped}

-- ---- one more number

pub has-push : (x k : ℕ) (ks : List ℕ) → has x (ks ++ k ∷ []) ≡ ((x == k) || has x ks)
has-push x k [] = refl
has-push x k (y ∷ ys) = rw (has-push x k ys) (or_swapped (x == y) (x == k) (has x ys))

pub push-has : (k : ℕ) (old new : List ℕ) → new ≡ old ++ k ∷ [] → has k new ≡ true
push-has k old new e = rw (e, has-push k k old) (or_left (k == k) (has k old) (same k))

pub push-grows : (plan : List Planned) (k : ℕ) (old new : List ℕ) → k < length plan → new ≡ old ++ k ∷ [] → Grows plan old new
push-grows plan k old new l e = record {
  stay = λ n h. rw (e, has-push n k old) (or_right (n == k) (has n old) h);
  steps = λ h. rw (e, list_all-append (λ (n : ℕ). nat_lt n (length plan)) old (k ∷ [])) (and_from (are_steps plan old) (nat_lt k (length plan) && true) h (rw (lt-ltb k (length plan) l) refl));
}

-- ---- the same numbers, in order

-- what is sorted, and then has no number twice, has the numbers that it had
pub has-ordered : (x : ℕ) (old sorted new : List ℕ) → IsPermutation old sorted → new ≡ dedup (λ (n m : ℕ). n == m) sorted → has x new ≡ has x old
has-ordered x old sorted new p e =
    ap (has x) e ∙ has_dedup x sorted ∙ has_any x sorted ∙ sym (list_any-IsPermutation (λ (y : ℕ). x == y) old sorted p) ∙ sym (has_any x old)

grows-alike : (plan : List Planned) (old new : List ℕ) → ((n : ℕ) → has n new ≡ has n old) → Grows plan old new
grows-alike plan old new e = record {
  stay = λ n h. e n ∙ h;
  steps = λ h. list_all-all (λ (n : ℕ). nat_lt n (length plan)) new (λ n is. list_all-met (λ (n : ℕ). nat_lt n (length plan)) old h n (sym (e n) ∙ is));
}

-- ---- growing

pub grows-more : (plan : List Planned) (a b c : List ℕ) → Grows plan a b → Grows plan b c → Grows plan a c
grows-more plan a b c g h = record { stay = λ n is. h.stay n (g.stay n is); steps = λ is. h.steps (g.steps is) }

pub retirement-stays : (plan : List Planned) (x : NodeId) (old new : List ℕ) → Grows plan old new → HasRetirement plan x old → HasRetirement plan x new
retirement-stays plan x old new g h = λ n is. g.stay n (h n is)

pub step-stays : (plan : List Planned) (n : ℕ) (old new : List ℕ) → Grows plan old new → HasStep plan n old → HasStep plan n new
step-stays plan n old new g h = record { here = λ s at is. g.stay n (h.here s at is); mirrored = λ s x at is. retirement-stays plan x old new g (h.mirrored s x at is) }

-- ---- the numbers of steps

found-within : (b : Bool) (k m n : ℕ) (o : Option ℕ) → cond b (Some k) o ≡ Some n → k < m → (o ≡ Some n → n < m) → n < m
found-within true k m n o h l there = (let e : k ≡ n = cc in omega arith)
found-within false k m n o h l there = there h

first_step-within : (test : Step → Bool) (k n : ℕ) (plan : List Planned) → first_step test k plan ≡ Some n → n < k + length plan
first_step-within test k n [] h = absurd cc
first_step-within test k n (x ∷ xs) h =
    let s : k + 1 + length xs ≡ k + length (x ∷ xs) = omega arith in
    found-within (test x.step) k (k + length (x ∷ xs)) n (first_step test (k + 1) xs) h (omega arith) (λ there. rw (← s) (first_step-within test (k + 1) n xs there))

-- a retirement is a step
pub retirement-within : (plan : List Planned) (x n : ℕ) → retirement_of plan x ≡ Some n → n < length plan
retirement-within plan x n h =
    let z : 0 + length plan ≡ length plan = omega arith in
    rw z at (first_step-within (is_retire_of x) 0 n plan h)

listed-within : (b : Bool) (k m : ℕ) (ks : List ℕ) → nat_lt k m ≡ true → list_all (λ n. nat_lt n m) ks ≡ true → list_all (λ n. nat_lt n m) (cond b (k ∷ ks) ks) ≡ true
listed-within true k m ks l h = and_from (nat_lt k m) (list_all (λ n. nat_lt n m) ks) l h
listed-within false k m ks l h = h

steps_from-within : (k m : ℕ) (plan : List Planned) (slot : Slot) → k + length plan ≡ m → list_all (λ n. nat_lt n m) (steps_from k plan slot) ≡ true
steps_from-within k m [] slot e = refl
steps_from-within k m (x ∷ xs) slot e =
    listed-within (is_on slot x.step) k m (steps_from (k + 1) xs slot) (lt-ltb k m (omega arith)) (steps_from-within (k + 1) m xs slot (omega arith))

-- the slot's steps are steps
pub slot-within : (plan : List Planned) (slot : Slot) → are_steps plan (steps_of plan slot) ≡ true
slot-within plan slot = steps_from-within 0 (length plan) plan slot (omega arith)

-- ---- what a step adds

same_step : (o : Option Planned) (s t : Step) → option_map (λ x. x.step) o ≡ Some t → (elim o [ Some x ↦ Some x.step | None ↦ None ]) ≡ Some s → s ≡ t
same_step None s t e at = absurd cc
same_step (Some x) s t e at = (let f : x.step ≡ t = cc in let g : x.step ≡ s = cc in cc)

-- a step that mirrors a slot to the node has what it needs
pub step-mirrors : (plan : List Planned) (n : ℕ) (t : Step) (x : NodeId) (old new : List ℕ) → option_map (λ y. y.step) (slice_get plan n) ≡ Some t → mirrored_node t ≡ Some x → has n old ≡ true → Grows plan old new → HasRetirement plan x new → HasStep plan n new
step-mirrors plan n t x old new e is here g r = record {
  here = λ s at looked. g.stay n here;
  mirrored = λ s y at same m k. (
      let st : s ≡ t = same_step (slice_get plan n) s t e at in
      let xy : y ≡ x = cc in
      r m (rw xy at k));
}

-- ---- what a slot adds

-- the numbers that are left, or were taken
abbrev pub TakenOr : List Planned → List ℕ → List ℕ → List ℕ → Type 0
TakenOr plan all rest numbers = (n : ℕ) → has n all ≡ true → (has n rest ≡ true) ⊎ HasStep plan n numbers

pub none-taken : (plan : List Planned) (all rest numbers : List ℕ) → rest ≡ all → TakenOr plan all rest numbers
none-taken plan all rest numbers e = λ n is. inl (rw e is)

pub one-taken : (plan : List Planned) (all later old new : List ℕ) (k : ℕ) → TakenOr plan all (k ∷ later) old → Grows plan old new → HasStep plan k new → TakenOr plan all later new
one-taken plan all later old new k t g here = λ n is. by n (t n is)
  where
    first : (n : ℕ) → ((n == k) ≡ true) ⊎ (has n later ≡ true) → (has n later ≡ true) ⊎ HasStep plan n new
    first n (inl at) = (let e : n ≡ k = eqb-true n k at in inr (rw e here))
    first n (inr there) = inl there

    by : (n : ℕ) → (has n (k ∷ later) ≡ true) ⊎ HasStep plan n old → (has n later ≡ true) ⊎ HasStep plan n new
    by n (inl left) = first n (or_cases (n == k) (has n later) left)
    by n (inr done) = inr (step-stays plan n old new g done)

pub slot-stays : (ring : RingValue) (plan : List Planned) (slot : Slot) (old new : List ℕ) → Grows plan old new → HasSlot ring plan slot old → HasSlot ring plan slot new
slot-stays ring plan slot old new g h = record {
  owner = λ x is. retirement-stays plan x old new g (h.owner x is);
  steps = λ n is. step-stays plan n old new g (h.steps n is);
}

-- the retirement of the slot's first owner is there, whichever node that is
pub owner-has : (plan : List Planned) (o : Option NodeId) (y x : NodeId) (numbers : List ℕ) → o ≡ Some y → o ≡ Some x → HasRetirement plan y numbers → HasRetirement plan x numbers
owner-has plan o y x numbers e f h = (let same_node : x ≡ y = cc in rw same_node h)

-- ---- in order

-- each number is below those after it
pub sorted-ascends : (xs : List ℕ) → IsStrictlySortedBy nat_cmp xs → ascending xs ≡ true
unfolding IsStrictlySortedBy
sorted-ascends [] h = refl
sorted-ascends (x ∷ []) h = refl
sorted-ascends (x ∷ y ∷ ys) h = and_from (nat_lt x y) (ascending (y ∷ ys)) (first_less (nat_lt x y) (x == y) h.0.0) (sorted-ascends (y ∷ ys) h.1)

-- so does what is sorted, and then has no number twice
pub ordered-ascends : (sorted new : List ℕ) → IsSorted nat_cmp sorted → new ≡ dedup (λ (n m : ℕ). n == m) sorted → ascending new ≡ true
ordered-ascends sorted new h e = ap ascending e ∙ sorted-ascends (dedup (λ (n m : ℕ). n == m) sorted) (IsStrictlySortedBy-dedup nat_cmp_total unsigned_ties sorted h)

-- ---- the slots

-- the slots below a number, and the slot of that number
pub slots-more : (ring : RingValue) (plan : List Planned) (p k : ℕ) (old new : List ℕ) → Grows plan old new → ((i : ℕ) → i < k → HasSlot ring plan (record { partition = p; index = i }) old) → HasSlot ring plan (record { partition = p; index = k }) new → (i : ℕ) → i < k + 1 → HasSlot ring plan (record { partition = p; index = i }) new
slots-more ring plan p k old new g front here i l =
    below_more (λ (i : ℕ). HasSlot ring plan (record { partition = p; index = i }) new) k (λ i l. slot-stays ring plan (record { partition = p; index = i }) old new g (front i l)) here i l

-- what the slots gathered is there in any order
pub gathered-alike : (ring : RingValue) (plan : List Planned) (p : ℕ) (old new : List ℕ) → ((n : ℕ) → has n new ≡ has n old) → IsGathered ring plan p old → IsGathered ring plan p new
gathered-alike ring plan p old new e h =
    let g = grows-alike plan old new e in
    record { within = g.steps h.within; slots = λ i l. slot-stays ring plan (slot_in p i) old new g (h.slots i l) }
