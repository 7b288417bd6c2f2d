use Rattle.std.proofs.Common.{◌≡◌, ◌<◌, false}
use Rattle.store_maps.specs.Slots.{has_place_for}
use Rattle.store_maps.specs.declared.key_id.KeyId.{KeyId}
use Rattle.store_maps.proofs.slot_map.SlotMap.is_empty.Given as goal

abbrev pub invariant-chunks : goal.invariant-chunks
invariant-chunks l = (k : KeyId) → k.chunk < l.chunk → has_place_for l.self k ≡ false
