-- For which slots hints are kept, and where keys lie.
use Rattle.std.specs.Prelude.{◌≡◌, ℕ, ◌<◌, true, List, Some, slice_get}
use Rattle.ring_names.specs.declared.ids.Slot.{Slot}
use Rattle.ring_table.specs.Value.{RingValue}
use Rattle.ring_space.specs.Place.{place_of}
use Rattle.plan_runs.specs.World.{World}

-- hints are kept only for slot indexes of the ring
abbrev pub HintsFit : RingValue → World → Type 0
HintsFit ring w = (x : ℕ) (slot : Slot) (v : ℕ) → w.hinted x slot v ≡ true → slot.index < ring.n

-- the keys lie in partitions of the ring
abbrev pub KeysFit : RingValue → List (List ℕ) → Type 0
KeysFit ring keys = (k : ℕ) (key : List ℕ) → slice_get keys k ≡ Some key → (place_of ring.q key).partition < ring.q
