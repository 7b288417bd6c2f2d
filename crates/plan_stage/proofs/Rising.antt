-- The holdings of a node in a slot stand in the order in which they begin.
use Rattle.std.proofs.Common.{◌≡◌, ℕ, ◌+◌, ◌<◌, ◌≤◌, Bool, true, false, not, cond, List, [], ◌∷◌, ◌++◌, Some, None, refl, arith}
use Rattle.std.specs.Prelude.{◌&&◌, ◌||◌, nat_lt}
use Rattle.std.specs.List.{list_all, take_while}
use Rattle.std.proofs.lemmas.Bool.{lt-ltb, ltb-true, and_parts, le-ltb}
use Rattle.std.proofs.lemmas.Bool.Decides.{nat_tests}
use Rattle.std.proofs.lemmas.List.Sums.{take_while-cons}
use Rattle.ring_names.specs.declared.ids.NodeId.{NodeId}
use Rattle.ring_names.specs.declared.ids.Slot.{Slot}
use Rattle.ring_table.specs.Value.{RingValue}
use Rattle.plan_text.specs.declared.step.Planned.{Planned}
use Rattle.plan_text.specs.Steps.{steps_of, steps_from, is_on}
use Rattle.texts.specs.Numbers.{ascending}
use Rattle.plan_stage.specs.declared.holding.Holding.{Holding}
use Rattle.plan_stage.specs.declared.stage.Stage.{Stage}
use Rattle.plan_stage.specs.Stage.{after, opening}
use Rattle.plan_stage.specs.Occupancy.{leaving, dropping}
use Rattle.plan_stage.specs.Each.{step_at, is_mirror_of, owns_first}
use Rattle.plan_stage.specs.Holdings.{holdings_from, first_holding, holdings}
use Rattle.plan_stage.specs.Looking.Asked.{begins_before}
use Rattle.plan_text.proofs.Searched.{ascends-tail}

-- ---- a test that fails from some holding on

-- the holdings that pass stand in front
abbrev pub InFront : (Holding → Bool) → List Holding → Type 0
InFront p [] = Unit {0}
InFront p (h ∷ hs) = (p h ≡ false → list_all (λ k. not (p k)) hs ≡ true) × InFront p hs

none-asked : (p q : Holding → Bool) (hs : List Holding) → list_all (λ k. not (p k)) hs ≡ true → list_all (λ k. not (p k) || q k) hs ≡ true
none-asked p q [] none = refl
none-asked p q (h ∷ hs) none = (let b = and_parts (not (p h)) (list_all (λ k. not (p k)) hs) none in rw (b.0, none-asked p q hs b.1) refl)

-- it is enough to ask those in front of the first that fails
pub all-until : (p q : Holding → Bool) (hs : List Holding) → InFront p hs → list_all q (take_while p hs) ≡ list_all (λ k. not (p k) || q k) hs
all-until p q [] front = refl
all-until p q (h ∷ hs) front = rw (take_while-cons p h hs) (by (p h) front.0 (all-until p q hs front.1))
  where
    by : (b : Bool) → (b ≡ false → list_all (λ k. not (p k)) hs ≡ true) → list_all q (take_while p hs) ≡ list_all (λ k. not (p k) || q k) hs
        → list_all q (cond b (h ∷ take_while p hs) []) ≡ ((not b || q h) && list_all (λ k. not (p k) || q k) hs)
    by true later rest = rw rest refl
    by false later rest = rw (none-asked p q hs (later refl)) refl

-- ---- the steps of a slot ascend

ascends-from : (k : ℕ) (xs : List Planned) (slot : Slot) (j : ℕ) → j < k → ascending (j ∷ steps_from k xs slot) ≡ true
ascends-from k [] slot j l = refl
ascends-from k (x ∷ xs) slot j l = by (is_on slot x.step) (ascends-from (k + 1) xs slot k (omega arith)) (ascends-from (k + 1) xs slot j (omega arith))
  where
    by : (b : Bool) → ascending (k ∷ steps_from (k + 1) xs slot) ≡ true → ascending (j ∷ steps_from (k + 1) xs slot) ≡ true → ascending (j ∷ cond b (k ∷ steps_from (k + 1) xs slot) (steps_from (k + 1) xs slot)) ≡ true
    by true here there = rw (lt-ltb j k l, here) refl
    by false here there = there

pub steps-ascend : (plan : List Planned) (slot : Slot) → ascending (steps_of plan slot) ≡ true
steps-ascend [] slot = refl
steps-ascend (x ∷ xs) slot = by (is_on slot x.step)
  where
    z : 0 + 1 ≡ 1
    z = omega arith

    by : (b : Bool) → ascending (cond b (0 ∷ steps_from (0 + 1) xs slot) (steps_from (0 + 1) xs slot)) ≡ true
    by true = ascends-from (0 + 1) xs slot 0 (omega arith)
    by false = ascends-tail 0 (steps_from (0 + 1) xs slot) (ascends-from (0 + 1) xs slot 0 (omega arith))

-- ---- so do the steps that begin holdings

not_early : (b t : ℕ) → nat_lt b t ≡ false → t ≤ b
not_early b t h = grind (arith, nat_tests)

-- behind a step that is not before step t all begin at step t or later
none-before : (plan : List Planned) (slot : Slot) (x : NodeId) (t : ℕ) (a : Stage) (b : ℕ) (bs : List ℕ) → t ≤ b → ascending (b ∷ bs) ≡ true → list_all (λ k. not (begins_before t k)) (holdings_from plan slot x a bs) ≡ true
none-before plan slot x t a b [] l up = refl
none-before plan slot x t a b (c ∷ cs) l up =
    let p = and_parts (nat_lt b c) (ascending (c ∷ cs)) up in
    let more : b < c = ltb-true b c p.0 in
    let far : t ≤ c = omega arith in
    by (elim (step_at plan c) [ Some s ↦ is_mirror_of slot x s | None ↦ false ]) (le-ltb c t far) (none-before plan slot x t (after plan a c) c cs far p.1)
  where
    by : (v : Bool) → nat_lt c t ≡ false → list_all (λ k. not (begins_before t k)) (holdings_from plan slot x (after plan a c) cs) ≡ true
        → list_all (λ k. not (begins_before t k)) (cond v (record { begin = Some c; end = leaving plan x (after plan a c) cs; drop = dropping plan x slot cs } ∷ holdings_from plan slot x (after plan a c) cs) (holdings_from plan slot x (after plan a c) cs)) ≡ true
    by true e rest = rw (e, rest) refl
    by false e rest = rest

rise-from : (plan : List Planned) (slot : Slot) (x : NodeId) (t : ℕ) (a : Stage) (bs : List ℕ) → ascending bs ≡ true → InFront (begins_before t) (holdings_from plan slot x a bs)
rise-from plan slot x t a [] up = tt
rise-from plan slot x t a (b ∷ bs) up =
    by (elim (step_at plan b) [ Some s ↦ is_mirror_of slot x s | None ↦ false ]) (rise-from plan slot x t (after plan a b) bs (ascends-tail b bs up))
  where
    by : (v : Bool) → InFront (begins_before t) (holdings_from plan slot x (after plan a b) bs)
        → InFront (begins_before t) (cond v (record { begin = Some b; end = leaving plan x (after plan a b) bs; drop = dropping plan x slot bs } ∷ holdings_from plan slot x (after plan a b) bs) (holdings_from plan slot x (after plan a b) bs))
    by true rest = (λ e. none-before plan slot x t (after plan a b) b bs (not_early b t e) up, rest)
    by false rest = rest

pub holdings-rise : (ring : RingValue) (plan : List Planned) (slot : Slot) (x : NodeId) (t : ℕ) → InFront (begins_before t) (holdings ring plan slot x)
holdings-rise ring plan slot x t = by (owns_first ring slot x) (rise-from plan slot x t (opening ring slot) (steps_of plan slot) (steps-ascend plan slot))
  where
    by : (v : Bool) → InFront (begins_before t) (holdings_from plan slot x (opening ring slot) (steps_of plan slot))
        → InFront (begins_before t) (cond v (first_holding ring plan slot ∷ []) [] ++ holdings_from plan slot x (opening ring slot) (steps_of plan slot))
    by true rest = (λ e. absurd cc, rest)
    by false rest = rest
