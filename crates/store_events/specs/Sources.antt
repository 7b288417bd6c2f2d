-- What copies read of a chunk.
use Rattle.std.specs.Prelude.{◌≡◌, ◌≢◌, ℕ, Bool, ◌&&◌, ◌||◌, List, [], is_some}
use Rattle.std.specs.List.{list_all}
use Rattle.ring_clock.specs.declared.entry.Entry.{Entry}
use Rattle.ring_versions.specs.declared.version.Version.{Version}
use Rattle.store_maps.specs.Ids.{of_chunk}
use Rattle.store_parts.specs.KeyTable.{chunk_of}
use Rattle.ring_store.specs.Nodes.{at_node}
use Rattle.ring_store.specs.Slots.{at_slot}
use Rattle.plan_text.specs.declared.step.Source.{Source}
use Rattle.plan_text.specs.declared.step.Source.TheVariants.{Owner, Slots}
use Rattle.ring_names.specs.declared.ids.NodeId.{NodeId}
use Rattle.ring_names.specs.declared.ids.Slot.{Slot}
use Rattle.plan_runs.specs.Effects.{source_has}
use Rattle.plan_runs.specs.World.{World, is_of_key, slot_at}
use Rattle.store_parts.specs.Numbers.{ArePlaced, in_part}
use Rattle.store_parts.specs.Shows.{Shows, value_of}
use Rattle.store_parts.specs.Stored.{MergeAll}
use Rattle.store_parts.specs.PutsMeet.{clock_at}
use Rattle.store_parts.specs.declared.slots.SlotNow.{SlotNow}
use Rattle.store_parts.specs.Slots.{slot_now}
use Rattle.store_parts.specs.Parts.{ring_of, plan_of, kept_of, Meets}
use Rattle.store_parts.specs.declared.parts.Parts.{Parts}

-- for each key of the chunk, among q partitions, the versions show those puts of the key that pass the test
abbrev pub ShowsChunk : ℕ → World → (ℕ → List Entry) → ℕ → (List ℕ → List Version) → (ℕ → Bool) → Type 0
ShowsChunk q w clock c held test = (k : List ℕ) → chunk_of q k ≡ c → Shows clock (value_of w) (held k) (λ v. test v && is_of_key w k v)

-- in whatever world the store is: whatever puts the old versions show, the new ones show these and those that are read there
abbrev pub Gathers : Parts → ℕ → (List ℕ → List Version) → (List ℕ → List Version) → (World → ℕ → Bool) → Type 0
Gathers a c old new read = (w : World) → Meets a w → (test : ℕ → Bool)
    → ShowsChunk (ring_of a).q w (clock_at a.puts) c old test → ShowsChunk (ring_of a).q w (clock_at a.puts) c new (λ v. test v || read w v)

-- what is read of the chunk, by number, is gathered so, and is of keys that have numbers
abbrev pub Takes : Parts → ℕ → (ℕ → List Version) → (ℕ → List Version) → (World → ℕ → Bool) → Type 0
Takes a c old new read = Gathers a c (in_part a.keys c old) (in_part a.keys c new) read × (ArePlaced a.keys (of_chunk c old) → ArePlaced a.keys (of_chunk c new))

-- whether the slot is kept
abbrev pub is_kept : List (List SlotNow) → Slot → Bool
is_kept rows slot = is_some (slot_now rows slot)

-- whether each of these slots of a partition is
abbrev pub are_kept : List (List SlotNow) → ℕ → List ℕ → Bool
are_kept rows p from = list_all (λ i. is_kept rows (slot_at p i)) from

-- whether each slot that a copy of the slot reads is
abbrev pub reads_kept : List (List SlotNow) → Slot → Source → Bool
reads_kept rows slot Owner = is_kept rows slot
reads_kept rows slot (Slots from) = are_kept rows slot.partition from

-- what the copy reads of the chunk has come to the slot at the node, and nothing else has changed
pub record Gives (old new : Parts) (node : NodeId) (slot : Slot) (source : Source) (c : ℕ) : Type 0 where
  pub versions : List ℕ → List Version
  pub shows : (w : World) → Meets old w → ShowsChunk (ring_of old).q w (clock_at old.puts) c versions (source_has (ring_of old) (plan_of old) w slot source)
  pub others : (k : List ℕ) → chunk_of (ring_of old).q k ≢ c → versions k ≡ []
  pub merged : MergeAll (kept_of old).stored (at_node node.0 (at_slot slot versions)) (kept_of new).stored
  pub rest : kept_of new ≡ record (kept_of old) { stored = (kept_of new).stored }
