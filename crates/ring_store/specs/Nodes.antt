-- Merges at all nodes.
use Rattle.std.specs.Prelude.{ℕ, ◌||◌, List, [], ◌==◌, Option, Some, None, if◌then◌else◌}
use Rattle.ring_names.specs.declared.ids.NodeId.{NodeId}
use Rattle.ring_names.specs.declared.ids.Slot.{Slot}
use Rattle.ring_versions.specs.Versions.{IsMerge}
use Rattle.ring_versions.specs.declared.version.Version.{Version}

-- in every key of every slot of every node what comes is merged in
abbrev pub MergesAtAll : {K : Type 0} → (ℕ → Slot → K → List Version) → (ℕ → Slot → K → List Version) → (ℕ → Slot → K → List Version) → Type 0
MergesAtAll {K} old more new = (x : ℕ) (s : Slot) (k : K) → IsMerge (old x s k) (more x s k) (new x s k)

-- this for the node, and nothing for others
abbrev pub at_node : {K : Type 0} → ℕ → (Slot → K → List Version) → ℕ → Slot → K → List Version
at_node node more x s k = if x == node then more s k else []

-- this for the owner and for its mirror, if there is one, and nothing for others
abbrev pub at_nodes : {K : Type 0} → NodeId → Option NodeId → (Slot → K → List Version) → ℕ → Slot → K → List Version
at_nodes owner None more x s k = at_node owner.0 more x s k
at_nodes owner (Some mirror) more x s k = if (x == owner.0) || (x == mirror.0) then more s k else []
