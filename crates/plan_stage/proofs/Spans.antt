-- The holdings of a slot, as a pass over its steps from the last one on finds them.
use Rattle.std.proofs.Common.{◌≡◌, ◌∙◌, ℕ, ◌+◌, ◌-◌, ◌<◌, ◌≤◌, Bool, true, false, cond, List, [], ◌∷◌, ◌++◌, length, get_or, drop, Option, Some, None, refl, sym, ap, subst, arith}
use Rattle.std.specs.Prelude.{◌==◌, slice_get, option_map, reverse, unwrap_or}
use Rattle.std.proofs.lemmas.List.{reverse-append, drop_more}
use Rattle.std.proofs.lemmas.Bool.{and_parts}
use Rattle.ring_names.specs.declared.ids.NodeId.{NodeId}
use Rattle.ring_names.specs.declared.ids.Slot.{Slot}
use Rattle.ring_table.specs.Value.{RingValue, owner_of}
use Rattle.plan_text.specs.declared.step.Step.{Step}
use Rattle.plan_text.specs.declared.step.Step.TheVariants.{Join, Mirror, Copy, Switch, Drop, Retire}
use Rattle.plan_text.specs.declared.step.Planned.{Planned}
use Rattle.plan_text.specs.Steps.{is_on, steps_of, is_slot}
use Rattle.plan_stage.specs.declared.held.Held.{Held}
use Rattle.plan_stage.specs.declared.behind.Behind.{Behind}
use Rattle.plan_stage.specs.declared.stage.Stage.{Stage}
use Rattle.plan_stage.specs.Stage.{after, next, opening}
use Rattle.plan_stage.specs.Occupancy.{is_node, leaving, dropping}
use Rattle.plan_stage.specs.Holdings.{holdings_from, holdings, first_holding}
use Rattle.plan_stage.specs.Looking.Held.{held_of, IsHeld}
use Rattle.plan_stage.specs.Each.{is_mirror_of, owns_first, passes}
use Rattle.plan_stage.specs.Clauses.{IsStagedSlot}
use Rattle.plan_stage.specs.Looking.Switches.{next_switch, second_switch, spans, drop_of, IsBehind, GoesBehind}
use Rattle.plan_stage.proofs.Places.{Acts, acts, placed, step_at-is}
use Rattle.plan_stage.proofs.Leavings.{IsApart, apart-next, passes-is, after-is, leaving-owner, leaving-mirror}
use Rattle.plan_stage.proofs.Truth.{node-is}

mirrored : (slot : Slot) (x : NodeId) (a : Stage) (t : Step) → is_mirror_of slot x t ≡ true → (next a t).mirror ≡ Some x
mirrored slot x a (Join y) e = absurd cc
mirrored slot x a (Mirror s y) e = (let b = and_parts (is_slot slot s) (is_node x y) e in ap (λ (z : NodeId). Some z) (sym (node-is x y b.1)))
mirrored slot x a (Copy s from) e = absurd cc
mirrored slot x a (Switch s) e = absurd cc
mirrored slot x a (Drop s y) e = absurd cc
mirrored slot x a (Retire y) e = absurd cc

-- one step of the slot, if it is known whether the step mirrors the node
span-step : (plan : List Planned) (slot : Slot) (x : NodeId) (a : Stage) (b : ℕ) (bs : List ℕ) (v : Bool) → (v ≡ true → leaving plan x a bs ≡ second_switch plan slot bs) → holdings_from plan slot x a bs ≡ spans plan slot x bs
    → cond v (record { begin = Some b; end = leaving plan x a bs; drop = dropping plan x slot bs } ∷ holdings_from plan slot x a bs) (holdings_from plan slot x a bs)
    ≡ cond v (record { begin = Some b; end = second_switch plan slot bs; drop = dropping plan x slot bs } ∷ spans plan slot x bs) (spans plan slot x bs)
span-step plan slot x a b bs true end more = rw (end refl, more) refl
span-step plan slot x a b bs false end more = more

pub holdings_from-spans : (plan : List Planned) (slot : Slot) (x : NodeId) (a : Stage) (bs : List ℕ) → Acts plan slot a bs → IsApart a → holdings_from plan slot x a bs ≡ spans plan slot x bs
holdings_from-spans plan slot x a [] on g = refl
holdings_from-spans plan slot x a (b ∷ bs) on g =
    let p = on.0.0 in
    let is : after plan a b ≡ next a p.step = after-is plan a b p on.0.1 in
    let apart : IsApart (after plan a b) = subst IsApart (sym is) (apart-next a p.step on.0.3 g) in
    let passing = passes-is (is_mirror_of slot x) plan b p on.0.1 in
    span-step plan slot x (after plan a b) b bs (passes (is_mirror_of slot x) plan b) (λ e. leaving-mirror plan slot x (after plan a b) bs on.1 apart (ap (λ (c : Stage). c.mirror) is ∙ mirrored slot x a p.step (sym passing ∙ e))) (holdings_from-spans plan slot x (after plan a b) bs on.1 apart)

-- the holding of the slot's first owner
first-is : (ring : RingValue) (plan : List Planned) (slot : Slot) (y : NodeId) → owner_of ring slot ≡ Some y → IsStagedSlot ring plan slot
    → first_holding ring plan slot ≡ record { begin = None; end = next_switch plan slot (steps_of plan slot); drop = dropping plan y slot (steps_of plan slot) }
first-is ring plan slot y own staged =
    let is : (opening ring slot).owner ≡ y = ap (λ (o : Option NodeId). unwrap_or o (record { 0 = 0 })) own in
    let apart : IsApart (opening ring slot) = λ m e. absurd cc in
    let end = leaving-owner plan slot (opening ring slot).owner (opening ring slot) (steps_of plan slot) (acts ring plan slot staged) apart refl in
    ap (λ (o : Option ℕ). record { begin = None; end = o; drop = dropping plan (opening ring slot).owner slot (steps_of plan slot) }) end
    ∙ ap (λ (z : NodeId). record { begin = None; end = next_switch plan slot (steps_of plan slot); drop = dropping plan z slot (steps_of plan slot) }) is

-- with it, what was found is all holdings of the slot
pub holdings-spans : (ring : RingValue) (plan : List Planned) (slot : Slot) (y x : NodeId) → owner_of ring slot ≡ Some y → IsStagedSlot ring plan slot
    → (let found = reverse (spans plan slot x (steps_of plan slot)) in
    cond (x.0 == y.0) (found ++ record { begin = None; end = next_switch plan slot (steps_of plan slot); drop = dropping plan y slot (steps_of plan slot) } ∷ []) found) ≡ reverse (holdings ring plan slot x)
holdings-spans ring plan slot y x own staged =
    let apart : IsApart (opening ring slot) = λ m e. absurd cc in
    let from = holdings_from-spans plan slot x (opening ring slot) (steps_of plan slot) (acts ring plan slot staged) apart in
    let owns : owns_first ring slot x ≡ (x.0 == y.0) = ap (λ (o : Option NodeId). elim o as (λ _. Bool) [ Some z ↦ is_node x z | None ↦ false ]) own in
    rw (first-is ring plan slot y own staged, from, owns) (by (x.0 == y.0))
  where
    by : (v : Bool) → cond v (reverse (spans plan slot x (steps_of plan slot)) ++ record { begin = None; end = next_switch plan slot (steps_of plan slot); drop = dropping plan y slot (steps_of plan slot) } ∷ []) (reverse (spans plan slot x (steps_of plan slot)))
        ≡ reverse (cond v (record { begin = None; end = next_switch plan slot (steps_of plan slot); drop = dropping plan y slot (steps_of plan slot) } ∷ []) [] ++ spans plan slot x (steps_of plan slot))
    by true = sym (reverse-append (record { begin = None; end = next_switch plan slot (steps_of plan slot); drop = dropping plan y slot (steps_of plan slot) } ∷ []) (spans plan slot x (steps_of plan slot)))
    by false = refl

-- one step further back
back : (plan : List Planned) (slot : Slot) (k : ℕ) (old new : Behind) (t : Step) → k < length (steps_of plan slot)
    → option_map (λ (x : Planned). x.step) (slice_get plan (get_or (steps_of plan slot) k 0)) ≡ Some t
    → GoesBehind old new t (get_or (steps_of plan slot) k 0)
    → IsBehind plan slot old (drop (k + 1) (steps_of plan slot)) → IsBehind plan slot new (drop k (steps_of plan slot))
back plan slot k old new t l at goes h =
    let p = placed plan slot k l in
    let same : p.0.step ≡ t = some_is p.0.step t (ap (λ (o : Option Planned). option_map (λ (x : Planned). x.step) o) (sym p.1) ∙ at) in
    let on : is_on slot t ≡ true = subst (λ (s : Step). is_on slot s ≡ true) same p.2 in
    subst (IsBehind plan slot new) (sym (drop_more (steps_of plan slot) k 0 l)) (goes plan slot (drop (k + 1) (steps_of plan slot)) (step_at-is plan (get_or (steps_of plan slot) k 0) t at) on h)
  where
    some_is : (s u : Step) → Some s ≡ Some u → s ≡ u
    some_is s u e = cc

pub goes_back : (plan : List Planned) (slot : Slot) (numbers : List ℕ) (k : ℕ) (old new : Behind) (t : Step) → numbers ≡ steps_of plan slot → 0 < k → k ≤ length numbers
    → option_map (λ (x : Planned). x.step) (slice_get plan (get_or numbers (k - 1) 0)) ≡ Some t
    → GoesBehind old new t (get_or numbers (k - 1) 0)
    → IsBehind plan slot old (drop k numbers) → IsBehind plan slot new (drop (k - 1) numbers)
goes_back plan slot numbers k old new t e some le at goes h =
    let before : k - 1 + 1 ≡ k = omega arith in
    let l : k - 1 < length numbers = omega arith in
    rw e (back plan slot (k - 1) old new t (rw e at l) (rw e at at) (rw e at goes) (rw (before, ← e) h))

-- the holding of the first owner, put last
pub is_held : (ring : RingValue) (plan : List Planned) (slot : Slot) (y : NodeId) (old : Behind) (new : Held) → owner_of ring slot ≡ Some y → IsStagedSlot ring plan slot → IsBehind plan slot old (steps_of plan slot)
    → ((x : NodeId) → held_of new x ≡ cond (is_node x y) (held_of old.held x ++ record { begin = None; end = old.next_switch; drop = drop_of old y } ∷ []) (held_of old.held x))
    → IsHeld ring plan slot (held_of new)
is_held ring plan slot y old new own staged h more = λ x.
    more x ∙ rw (h.held x, h.next, h.drops y) (holdings-spans ring plan slot y x own staged)
