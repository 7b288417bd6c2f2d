-- The times for which a node holds versions of a slot.
use Rattle.std.specs.Prelude.{ℕ, Bool, true, false, not, List, [], ◌∷◌, ◌++◌, Some, None, if◌then◌else◌}
use Rattle.ring_names.specs.declared.ids.NodeId.{NodeId}
use Rattle.ring_names.specs.declared.ids.Slot.{Slot}
use Rattle.ring_table.specs.Value.{RingValue}
use Rattle.plan_text.specs.declared.step.Planned.{Planned}
use Rattle.plan_text.specs.Steps.{steps_of}
use Rattle.plan_stage.specs.declared.holding.Holding.{Holding}
use Rattle.plan_stage.specs.declared.stage.Stage.{Stage}
use Rattle.plan_stage.specs.Stage.{opening, after}
use Rattle.plan_stage.specs.Occupancy.{leaving, dropping, first_end, first_drop}
use Rattle.plan_stage.specs.Each.{passes, each_below, is_mirror_of, owns_first, slot_in}

-- the holdings of the node that these steps begin, which act on the slot from the stage on
abbrev pub holdings_from : List Planned → Slot → NodeId → Stage → List ℕ → List Holding
holdings_from plan slot x a [] = []
holdings_from plan slot x a (b ∷ bs) = if passes (is_mirror_of slot x) plan b
    then record { begin = Some b; end = leaving plan x (after plan a b) bs; drop = dropping plan x slot bs } ∷ holdings_from plan slot x (after plan a b) bs
    else holdings_from plan slot x (after plan a b) bs

-- the holding of the slot's first owner, which began before the first step
abbrev pub first_holding : RingValue → List Planned → Slot → Holding
first_holding ring plan slot = record { begin = None; end = first_end ring plan slot; drop = first_drop ring plan slot }

-- the node's holdings of the slot, in the order in which they begin
abbrev pub holdings : RingValue → List Planned → Slot → NodeId → List Holding
holdings ring plan slot x = (if owns_first ring slot x then first_holding ring plan slot ∷ [] else [])
    ++ holdings_from plan slot x (opening ring slot) (steps_of plan slot)

-- whether there are no holdings
abbrev pub is_none : List Holding → Bool
is_none [] = true
is_none (h ∷ hs) = false

-- the node holds some slot of the partition for some time
abbrev pub is_holder : RingValue → List Planned → ℕ → NodeId → Bool
is_holder ring plan p x = not (each_below ring.n (λ i. is_none (holdings ring plan (slot_in p i) x)))
