-- Keepers and the slots for which they keep hints.
use Rattle.std.specs.Prelude.{ℕ, Bool, List, length}
use Rattle.ring_names.specs.declared.ids.NodeId.{NodeId}
use Rattle.ring_names.specs.declared.ids.Slot.{Slot}
use Rattle.ring_names.specs.contracts.ids.SlotPartialEq.TheImpl as slot_eq
use Rattle.ring_hints.specs.declared.kept_for.KeptFor.{KeptFor}
use Rattle.ring_hints.specs.declared.pairs.Pairs.{Pairs}
use Rattle.ring_hints.specs.Sets.{set_at}
use Rattle.ring_hints.specs.Views.{in_order}

-- whether the node keeps hints for the slot
abbrev pub is_pair : Pairs → ℕ → Slot → Bool
is_pair a x s = in_order x s a.order

-- the keepers of the slot, by number
abbrev pub keepers_of : Pairs → Slot → List NodeId
keepers_of a s = set_at ((slot_eq.ghosts).eq) a.keepers s

-- how many pairs there are
abbrev pub pair_count : Pairs → ℕ
pair_count a = length a.order

-- the pairs in the order of their numbers, each once
abbrev pub pairs_of : Pairs → List KeptFor
pairs_of a = a.order
