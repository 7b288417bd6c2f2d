-- Which nodes keep something of which keys, for which slots.
use Rattle.std.specs.Prelude.{ℕ, Bool, false, Option, Some, None}
use Rattle.std.specs.HashMap as map
use Rattle.ring_names.specs.declared.ids.Slot.{Slot}
use Rattle.ring_names.specs.contracts.ids.SlotPartialEq.TheImpl as slot_eq
use Rattle.store_maps.specs.declared.key_id.KeyId.{KeyId}
use Rattle.store_maps.specs.declared.holders.Holders.{Holders}
use Rattle.store_maps.specs.Holders.{holds}
use Rattle.ring_hints.specs.declared.slot_holders.SlotHolders.{SlotHolders}

-- whether the node has something of the key; no node has if there are no holders
abbrev pub has_key : Option Holders → KeyId → ℕ → Bool
has_key None k x = false
has_key (Some a) k x = holds a k x

-- the slots are the same
abbrev pub is_slot : Slot → Slot → Bool
is_slot = (slot_eq.ghosts).eq

-- the holders of the slot's keys, if there are any
abbrev pub holders_for : SlotHolders → Slot → Option Holders
holders_for a s = map.get is_slot a.slots s

-- whether the node keeps something of the key for the slot
abbrev pub holds_for : SlotHolders → Slot → KeyId → ℕ → Bool
holds_for a s k x = has_key (holders_for a s) k x
