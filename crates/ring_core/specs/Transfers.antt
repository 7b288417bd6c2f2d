-- Who takes part in open copies, by the slots and steps that are kept.
use Rattle.std.specs.Prelude.{ℕ, Bool, false, ◌&&◌, ◌||◌, ◌==◌, List, Some, None}
use Rattle.std.specs.List.{list_any}
use Rattle.ring_names.specs.declared.ids.Slot.{Slot}
use Rattle.ring_table.specs.declared.allowance.Side.{Side}
use Rattle.ring_table.specs.declared.allowance.Side.TheVariants.{Both, Take, Give}
use Rattle.plan_text.specs.declared.step.Source.{Source}
use Rattle.plan_text.specs.declared.step.Planned.{Planned}
use Rattle.plan_stage.specs.Parties.{source_slots}
use Rattle.plan_runs.specs.World.{copy_at}
use Rattle.store_parts.specs.declared.slots.SlotNow.{SlotNow}
use Rattle.store_parts.specs.declared.steps.StepNow.{StepNow}
use Rattle.store_parts.specs.Slots.{slot_now}
use Rattle.store_parts.specs.Steps.{is_open_at}

-- the node owns the slot
abbrev pub owns_kept : List (List SlotNow) → ℕ → Slot → Bool
owns_kept rows x slot = elim (slot_now rows slot) [ Some a ↦ x == a.owner.0 | None ↦ false ]

-- it mirrors it
abbrev pub mirrors_kept : List (List SlotNow) → ℕ → Slot → Bool
mirrors_kept rows x slot = elim (slot_now rows slot) [ Some a ↦ elim a.mirror [ Some y ↦ x == y.0 | None ↦ false ] | None ↦ false ]

-- it takes part in a copy of the slot on that side
abbrev pub part_kept : List (List SlotNow) → ℕ → Side → Slot → Source → Bool
part_kept rows x Both slot from = mirrors_kept rows x slot || list_any (owns_kept rows x) (source_slots slot from)
part_kept rows x Take slot from = mirrors_kept rows x slot
part_kept rows x Give slot from = list_any (owns_kept rows x) (source_slots slot from)

-- step n is an open copy in which it takes part on that side
abbrev pub is_open_kept : List Planned → List StepNow → List (List SlotNow) → ℕ → Side → ℕ → Bool
is_open_kept plan steps rows x side n = is_open_at steps n && elim (copy_at plan n) [ Some k ↦ part_kept rows x side k.0 k.1 | None ↦ false ]
