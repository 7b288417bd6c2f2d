-- What comes to nodes by an event, and the versions that show it.
use Rattle.std.specs.Prelude.{ℕ, Bool, false, ◌&&◌, ◌||◌, ◌==◌, List, Option, Some, None}
use Rattle.ring_names.specs.declared.ids.NodeId.{NodeId}
use Rattle.ring_names.specs.declared.ids.Slot.{Slot}
use Rattle.ring_table.specs.Value.{RingValue}
use Rattle.plan_text.specs.declared.step.Planned.{Planned}
use Rattle.plan_text.specs.Steps.{is_slot}
use Rattle.ring_clock.specs.declared.entry.Entry.{Entry}
use Rattle.ring_versions.specs.declared.version.Version.{Version}
use Rattle.ring_versions.specs.Versions.{IsMerge}
use Rattle.plan_runs.specs.World.{World, is_of_key, copy_at, stage_now}
use Rattle.plan_runs.specs.Versions.{put_slot}
use Rattle.plan_runs.specs.Effects.{is_copied}
use Rattle.store_parts.specs.Shows.{Shows, value_of}

-- ---- versions by node, slot and key

-- for each node, slot and key the versions there show the puts of the key that are there
abbrev pub ShowAll : World → (ℕ → List Entry) → (ℕ → Slot → List ℕ → List Version) → (ℕ → Slot → ℕ → Bool) → Type 0
ShowAll w clock held test = (x : ℕ) (slot : Slot) (key : List ℕ) → Shows clock (value_of w) (held x slot key) (λ v. test x slot v && is_of_key w key v)

-- for each of them the new versions are a merge of the old ones and of those that come
abbrev pub MergeAll : (ℕ → Slot → List ℕ → List Version) → (ℕ → Slot → List ℕ → List Version)
    → (ℕ → Slot → List ℕ → List Version) → Type 0
MergeAll old more new = (x : ℕ) (slot : Slot) (key : List ℕ) → IsMerge (old x slot key) (more x slot key) (new x slot key)

-- ---- the puts that come

-- these puts, for the slot, at the node
abbrev pub at_node : NodeId → Slot → (ℕ → Bool) → ℕ → Slot → ℕ → Bool
at_node x s more y t v = (y == x.0) && is_slot s t && more v

-- these puts, for the slot, at the mirror, if there is one
abbrev pub at_mirror : Option NodeId → Slot → (ℕ → Bool) → ℕ → Slot → ℕ → Bool
at_mirror None s more y t v = false
at_mirror (Some x) s more y t v = at_node x s more y t v

-- these puts, for the slot, at its owner and its mirror
abbrev pub at_served : RingValue → List Planned → World → Slot → (ℕ → Bool) → ℕ → Slot → ℕ → Bool
at_served ring plan w s more y t v = at_mirror (stage_now ring plan w s).mirror s more y t v || at_node (stage_now ring plan w s).owner s more y t v

-- what a write brings
abbrev pub written : RingValue → List Planned → World → ℕ → ℕ → ℕ → Slot → ℕ → Bool
written ring plan w v i = at_served ring plan w (put_slot ring w v i) (λ u. u == v)

-- what a handoff brings
abbrev pub handed : RingValue → List Planned → World → NodeId → Slot → ℕ → Slot → ℕ → Bool
handed ring plan w x s = at_served ring plan w s (w.hinted x.0 s)

-- what a chunk of a copy brings
abbrev pub copied : RingValue → List Planned → World → ℕ → ℕ → ℕ → Slot → ℕ → Bool
copied ring plan w n c y t v = elim (copy_at plan n) [
  | Some k ↦ at_mirror (stage_now ring plan w k.0).mirror k.0 (is_copied ring plan w k.0 k.1 c) y t v
  | None ↦ false
]

-- what a hint brings
abbrev pub kept_by : RingValue → World → ℕ → ℕ → NodeId → ℕ → Slot → ℕ → Bool
kept_by ring w v i x = at_node x (put_slot ring w v i) (λ u. u == v)
