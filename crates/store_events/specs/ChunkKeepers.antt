-- Which keepers of hints are down.
use Rattle.std.specs.Prelude.{ℕ, Bool, ◌&&◌, ◌||◌, length, Option}
use Rattle.ring_names.specs.declared.ids.NodeId.{NodeId}
use Rattle.ring_names.specs.declared.ids.Slot.{Slot}
use Rattle.ring_table.specs.Value.{RingValue}
use Rattle.plan_runs.specs.Versions.{is_in_chunk}
use Rattle.plan_runs.specs.World.{World, some_below}
use Rattle.store_parts.specs.Nodes.{is_up_at}
use Rattle.store_parts.specs.LeastDown.{IsLeastDown}
use Rattle.store_parts.specs.Parts.{Meets}
use Rattle.store_parts.specs.declared.parts.Parts.{Parts}

-- whether the node keeps a put of the chunk as a hint for the slot
abbrev pub keeps_part : RingValue → World → Slot → ℕ → ℕ → Bool
keeps_part ring w slot c x = some_below (length w.puts) (λ v. is_in_chunk ring w slot c v && w.hinted x slot v)

-- in each world: if the old node is the least of some down nodes, the new one is the least with the passing nodes
abbrev pub Lessens : Parts → Option NodeId → Option NodeId → (World → ℕ → Bool) → Type 0
Lessens a old new test = (w : World) → Meets a w → (nodes : ℕ → Bool)
    → IsLeastDown (is_up_at a.nodes) nodes old → IsLeastDown (is_up_at a.nodes) (λ x. nodes x || test w x) new
