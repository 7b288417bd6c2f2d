-- The steps of a slot among those of the plan.
use Rattle.std.proofs.Common.{◌≡◌, ℕ, zero, suc, ◌+◌, ◌<◌, ◌≤◌, Bool, true, false, cond, List, [], ◌∷◌, length, get_or, Some, refl, arith}
use Rattle.std.specs.Prelude.{◌&&◌, ◌==◌, nat_lt}
use Rattle.std.specs.List.{list_all, list_any}
use Rattle.ring_names.specs.Lists.{has}
use Rattle.std.proofs.lemmas.Bool.{lt-ltb, ltb-true}
use Rattle.ring_names.specs.declared.ids.Slot.{Slot}
use Rattle.ring_names.proofs.Logic.{lt_self}
use Rattle.plan_text.specs.declared.step.Step.{Step}
use Rattle.plan_text.specs.declared.step.Planned.{Planned}
use Rattle.plan_text.specs.Steps.{steps_of, steps_from, is_on}
use Rattle.plan_stage.specs.Parties.{count_below}
use Rattle.plan_stage.specs.Each.{step_at, each_step}

-- ---- they ascend

at_least : (k : ℕ) (xs : List Planned) (slot : Slot) (j : ℕ) → j < length (steps_from k xs slot) → k ≤ get_or (steps_from k xs slot) j 0
at_least k [] slot j l = absurd (omega arith)
at_least k (x ∷ xs) slot j l = by (is_on slot x.step) j l (λ i m. at_least (k + 1) xs slot i m)
  where
    by : (b : Bool) (j : ℕ) → j < length (cond b (k ∷ steps_from (k + 1) xs slot) (steps_from (k + 1) xs slot))
        → ((i : ℕ) → i < length (steps_from (k + 1) xs slot) → k + 1 ≤ get_or (steps_from (k + 1) xs slot) i 0)
        → k ≤ get_or (cond b (k ∷ steps_from (k + 1) xs slot) (steps_from (k + 1) xs slot)) j 0
    by true zero m more = omega arith
    by true (suc i) m more = let r = more i (omega arith) in omega (arith, r)
    by false i m more = let r = more i m in omega (arith, r)

pub none_below : (n k : ℕ) (xs : List Planned) (slot : Slot) → n ≤ k → count_below n (steps_from k xs slot) ≡ 0
none_below n k [] slot l = refl
none_below n k (x ∷ xs) slot l = by (is_on slot x.step) (nat_lt k n) refl (none_below n (k + 1) xs slot (omega arith))
  where
    by : (b c : Bool) → nat_lt k n ≡ c → count_below n (steps_from (k + 1) xs slot) ≡ 0 → count_below n (cond b (k ∷ steps_from (k + 1) xs slot) (steps_from (k + 1) xs slot)) ≡ 0
    by true true e h = let s : k < n = ltb-true k n e in absurd (omega arith)
    by true false e h = rw (e, h) refl
    by false c e h = h

place_from : (k : ℕ) (xs : List Planned) (slot : Slot) (j : ℕ) → j < length (steps_from k xs slot) → count_below (get_or (steps_from k xs slot) j 0) (steps_from k xs slot) ≡ j
place_from k [] slot j l = absurd (omega arith)
place_from k (x ∷ xs) slot j l = by (is_on slot x.step) j l (λ i m. place_from (k + 1) xs slot i m)
  where
    by : (b : Bool) (j : ℕ) → j < length (cond b (k ∷ steps_from (k + 1) xs slot) (steps_from (k + 1) xs slot))
        → ((i : ℕ) → i < length (steps_from (k + 1) xs slot) → count_below (get_or (steps_from (k + 1) xs slot) i 0) (steps_from (k + 1) xs slot) ≡ i)
        → count_below (get_or (cond b (k ∷ steps_from (k + 1) xs slot) (steps_from (k + 1) xs slot)) j 0) (cond b (k ∷ steps_from (k + 1) xs slot) (steps_from (k + 1) xs slot)) ≡ j
    by true zero m more = (let e : nat_lt k k ≡ false = lt_self k in rw (e, none_below k (k + 1) xs slot (omega arith)) refl)
    by true (suc i) m more =
        let g = at_least (k + 1) xs slot i (omega arith) in
        let s : k < get_or (steps_from (k + 1) xs slot) i 0 = omega (arith, g) in
        let e : nat_lt k (get_or (steps_from (k + 1) xs slot) i 0) ≡ true = lt-ltb k (get_or (steps_from (k + 1) xs slot) i 0) s in
        let r : count_below (get_or (steps_from (k + 1) xs slot) i 0) (steps_from (k + 1) xs slot) ≡ i = more i (omega arith) in
        rw (e, r) (omega arith)
    by false i m more = more i m

-- the j-th step of a slot has place j
pub place : (plan : List Planned) (slot : Slot) (j : ℕ) → j < length (steps_of plan slot) → count_below (get_or (steps_of plan slot) j 0) (steps_of plan slot) ≡ j
place plan slot j l = place_from 0 plan slot j l

-- ---- a test that all steps of other slots pass asks only the slot's own steps

own_from : (plan : List Planned) (slot : Slot) (f : ℕ → Step → Bool) (g : ℕ → Bool) → ((n : ℕ) (s : Step) → is_on slot s ≡ false → f n s ≡ true) → ((n : ℕ) (s : Step) → step_at plan n ≡ Some s → is_on slot s ≡ true → f n s ≡ g n)
    → (k : ℕ) (xs : List Planned) → ((i : ℕ) → step_at plan (k + i) ≡ step_at xs i) → each_step f k xs ≡ list_all g (steps_from k xs slot)
own_from plan slot f g other own k [] same = refl
own_from plan slot f g other own k (x ∷ xs) same = by (is_on slot x.step) refl (own_from plan slot f g other own (k + 1) xs (λ i. rw (next i) at (same (suc i))))
  where
    z : k + 0 ≡ k
    z = omega arith

    next : (i : ℕ) → k + suc i ≡ (k + 1) + i
    next i = omega arith

    by : (b : Bool) → is_on slot x.step ≡ b → each_step f (k + 1) xs ≡ list_all g (steps_from (k + 1) xs slot)
        → (f k x.step && each_step f (k + 1) xs) ≡ list_all g (cond b (k ∷ steps_from (k + 1) xs slot) (steps_from (k + 1) xs slot))
    by true e more = rw (own k x.step (rw z at (same 0)) e, more) refl
    by false e more = rw (other k x.step e) more

pub own_steps : (plan : List Planned) (slot : Slot) (f : ℕ → Step → Bool) (g : ℕ → Bool) → ((n : ℕ) (s : Step) → is_on slot s ≡ false → f n s ≡ true) → ((n : ℕ) (s : Step) → step_at plan n ≡ Some s → is_on slot s ≡ true → f n s ≡ g n) → each_step f 0 plan ≡ list_all g (steps_of plan slot)
own_steps plan slot f g other own =
    let z : (i : ℕ) → 0 + i ≡ i = λ i. omega arith in
    own_from plan slot f g other own 0 plan (λ i. rw (z i) refl)

-- ---- whether a number is among others

pub any_has : (n : ℕ) (xs : List ℕ) → list_any (λ x. n == x) xs ≡ has n xs
any_has n [] = refl
any_has n (x ∷ xs) = rw (any_has n xs) refl
