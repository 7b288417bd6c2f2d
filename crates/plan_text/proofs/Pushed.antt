-- A plan with one more step.
use Rattle.std.proofs.Common.{get_or, suc, zero, ◌≡◌, ℕ, ◌+◌, ◌<◌, ◌≤◌, Bool, true, false, cond, List, [], ◌∷◌, ◌++◌, length, refl, sym, ap, ◌∙◌, arith, add-zero, length-append, Ok, Err, Result, OnOk, flat_map}
use Rattle.std.proofs.lemmas.List.{flat_map_more, length-append}
use Rattle.std.specs.Prelude.{option_map, slice_get, sum_by}
use Rattle.std.specs.List.{list_all}
use Rattle.std.proofs.lemmas.List.Sums.{sum_by_push, sum_by-cons}
use Rattle.plan_text.proofs.Terms.{Slot, Planned, Step, is_on, steps_of, dependencies, IsPlanned, EachPlanned, IsPlan}
use Rattle.plan_text.specs.Steps.{steps_from}
use Rattle.plan_text.specs.Kept.{planned_with}

one_more : (b c : Bool) (k n : ℕ) (t u : List ℕ) → u ≡ cond c (t ++ n ∷ []) t → cond b (k ∷ u) u ≡ cond c (cond b (k ∷ t) t ++ n ∷ []) (cond b (k ∷ t) t)
one_more true true k n t u e = ap (λ l. k ∷ l) e
one_more true false k n t u e = ap (λ l. k ∷ l) e
one_more false true k n t u e = e
one_more false false k n t u e = e

pub steps_from-push : (k : ℕ) (xs : List Planned) (x : Planned) (s : Slot) → steps_from k (xs ++ x ∷ []) s ≡ cond (is_on s x.step) (steps_from k xs s ++ (k + length xs) ∷ []) (steps_from k xs s)
steps_from-push k [] x s = rw (add-zero k) refl
steps_from-push k (y ∷ ys) x s =
    let e : (k + 1) + length ys ≡ k + length (y ∷ ys) = omega arith in
    one_more (is_on s y.step) (is_on s x.step) k (k + length (y ∷ ys)) (steps_from (k + 1) ys s) (steps_from (k + 1) (ys ++ x ∷ []) s) (steps_from-push (k + 1) ys x s ∙ ap (λ (n : ℕ). cond (is_on s x.step) (steps_from (k + 1) ys s ++ n ∷ []) (steps_from (k + 1) ys s)) e)

-- the slot's steps, with one more step
pub steps_of-push : (xs : List Planned) (x : Planned) (s : Slot) → steps_of (xs ++ x ∷ []) s ≡ cond (is_on s x.step) (steps_of xs s ++ length xs ∷ []) (steps_of xs s)
steps_of-push xs x s = steps_from-push 0 xs x s ∙ (let e : 0 + length xs ≡ length xs = omega arith in ap (λ (n : ℕ). cond (is_on s x.step) (steps_of xs s ++ n ∷ []) (steps_of xs s)) e)

within : (b : Bool) (k n : ℕ) (t : List ℕ) → k < n → ((i : ℕ) → i < length t → get_or t i 0 < n) → (i : ℕ) → i < length (cond b (k ∷ t) t) → get_or (cond b (k ∷ t) t) i 0 < n
within true k n t h each zero l = h
within true k n t h each (suc i) l = each i (omega arith)
within false k n t h each i l = each i l

steps_from-within : (k : ℕ) (xs : List Planned) (s : Slot) (n : ℕ) → n ≡ k + length xs → (i : ℕ) → i < length (steps_from k xs s) → get_or (steps_from k xs s) i 0 < n
steps_from-within k [] s n e i l = absurd (omega arith)
steps_from-within k (x ∷ xs) s n e i l =
    within (is_on s x.step) k n (steps_from (k + 1) xs s) (omega arith) (steps_from-within (k + 1) xs s n (omega arith)) i l

-- the slot's steps are steps of the plan
pub steps_of-within : (plan : List Planned) (s : Slot) (i : ℕ) → i < length (steps_of plan s) → get_or (steps_of plan s) i 0 < length plan
steps_of-within plan s i l = steps_from-within 0 plan s (length plan) (omega arith) i l

-- the nodes that steps of a kind name, with one more step
pub named-push : (named : Step → List ℕ) (xs : List Planned) (x : Planned)
    → flat_map (λ y. named y.step) (xs ++ x ∷ []) ≡ flat_map (λ y. named y.step) xs ++ named x.step
named-push named xs x = sym (flat_map_more (λ (y : Planned). named y.step) [] xs x)

pub EachPlanned-push : (k : ℕ) (xs : List Planned) (x : Planned) → EachPlanned k xs → IsPlanned (k + length xs) x → EachPlanned k (xs ++ x ∷ [])
EachPlanned-push k [] x each last = (rw add-zero at last, tt)
EachPlanned-push k (y ∷ ys) x each last =
    let e : k + length (y ∷ ys) ≡ (k + 1) + length ys = omega arith in
    (each.0, EachPlanned-push (k + 1) ys x each.1 (rw e at last))

pub IsPlan-push : (plan : List Planned) (x : Planned) → IsPlan plan → IsPlanned (length plan) x → length plan < 131072 → dependencies plan + length x.after ≤ 524288 → IsPlan (plan ++ x ∷ [])
IsPlan-push plan x is last steps few = record {
  each = EachPlanned-push 0 plan x is.each (let e : 0 + length plan ≡ length plan = omega arith in rw e last);
  steps = rw length-append (omega arith);
  dependencies = rw (sum_by_push (λ (y : Planned). length y.after) plan x) few;
}

pub on_both : {T E P S Q : Type 0} (r : Result T E) → (P → S → Q) → OnOk r P → OnOk r S → OnOk r Q
on_both (Ok x) f p s = f p s
on_both (Err e) f p s = tt

-- ---- steps, each with its row

pub with-push : (steps : List Step) (rows : List (List ℕ)) (s : Step) (r : List ℕ) → length rows ≡ length steps
    → planned_with (steps ++ s ∷ []) (rows ++ r ∷ []) ≡ planned_with steps rows ++ record { step = s; after = r } ∷ []
with-push [] [] s r e = refl
with-push [] (x ∷ rows) s r e = absurd (omega arith)
with-push (t ∷ steps) [] s r e = absurd (omega arith)
with-push (t ∷ steps) (x ∷ rows) s r e = ap (λ (l : List Planned). record { step = t; after = x } ∷ l) (with-push steps rows s r (omega arith))

pub with-length : (steps : List Step) (rows : List (List ℕ)) → length rows ≡ length steps → length (planned_with steps rows) ≡ length steps
with-length [] rows e = refl
with-length (t ∷ steps) [] e = e
with-length (t ∷ steps) (x ∷ rows) e = ap (λ n. suc n) (with-length steps rows (omega arith))

pub with-step : (steps : List Step) (rows : List (List ℕ)) (k : ℕ) → length rows ≡ length steps → option_map (λ (x : Planned). x.step) (slice_get (planned_with steps rows) k) ≡ slice_get steps k
with-step [] rows k e = refl
with-step (t ∷ steps) [] k e = absurd (omega arith)
with-step (t ∷ steps) (x ∷ rows) zero e = refl
with-step (t ∷ steps) (x ∷ rows) (suc k) e = with-step steps rows k (omega arith)

pub with-after : (steps : List Step) (rows : List (List ℕ)) (k : ℕ) → length rows ≡ length steps → option_map (λ (x : Planned). x.after) (slice_get (planned_with steps rows) k) ≡ slice_get rows k
with-after [] [] k e = refl
with-after [] (x ∷ rows) k e = absurd (omega arith)
with-after (t ∷ steps) [] k e = absurd (omega arith)
with-after (t ∷ steps) (x ∷ rows) zero e = refl
with-after (t ∷ steps) (x ∷ rows) (suc k) e = with-after steps rows k (omega arith)

pub with-all : (test : Step → Bool) (steps : List Step) (rows : List (List ℕ)) → length rows ≡ length steps → list_all (λ (x : Planned). test x.step) (planned_with steps rows) ≡ list_all test steps
with-all test [] rows e = refl
with-all test (t ∷ steps) [] e = absurd (omega arith)
with-all test (t ∷ steps) (x ∷ rows) e = rw (with-all test steps rows (omega arith)) refl

pub with-total : (steps : List Step) (rows : List (List ℕ)) → length rows ≡ length steps → dependencies (planned_with steps rows) ≡ sum_by (λ (row : List ℕ). length row) rows
with-total [] [] e = refl
with-total [] (x ∷ rows) e = absurd (omega arith)
with-total (t ∷ steps) [] e = absurd (omega arith)
with-total (t ∷ steps) (x ∷ rows) e =
    sum_by-cons (λ (y : Planned). length y.after) (record { step = t; after = x }) (planned_with steps rows) ∙ ap (λ n. length x + n) (with-total steps rows (omega arith))
    ∙ sym (sum_by-cons (λ (row : List ℕ). length row) x rows)
