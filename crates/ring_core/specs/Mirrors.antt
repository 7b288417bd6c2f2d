-- Who owns and mirrors slots, and what nodes store for them.
use Rattle.std.specs.Prelude.{ℕ, Bool, ◌&&◌, ◌||◌, List, length, Option}
use Rattle.ring_names.specs.declared.ids.NodeId.{NodeId}
use Rattle.ring_names.specs.declared.ids.Slot.{Slot}
use Rattle.ring_table.specs.Value.{RingValue}
use Rattle.plan_text.specs.declared.step.Planned.{Planned}
use Rattle.plan_runs.specs.World.{World, some_below, stage_now}
use Rattle.plan_runs.specs.Succession.{succeeds}

-- the slot's owner and its mirror now
abbrev pub nodes_now : RingValue → List Planned → World → Slot → NodeId × Option NodeId
nodes_now ring plan w slot = ((stage_now ring plan w slot).owner, (stage_now ring plan w slot).mirror)

-- whether the node stores the put, or one that succeeds it, for the slot
abbrev pub is_stored : World → ℕ → Slot → ℕ → Bool
is_stored w x slot v = w.stored x slot v || some_below (length w.puts) (λ u. succeeds w u v && w.stored x slot u)
