use Rattle.std.proofs.Common.{◌≡◌, ◌≢◌, ◌<◌, ℕ, []}
use Rattle.store_maps.specs.declared.key_id.KeyId.{KeyId}
use Rattle.ring_hints.specs.Maps.{hinted_at}
use Rattle.ring_hints.proofs.maps.Maps.keeps_other.Given as goal

abbrev pub invariant-indexes : goal.invariant-indexes
invariant-indexes l = (i : ℕ) → i < l.index → i ≢ l.slot.index → (k : KeyId) → hinted_at l.self l.keeper.0 (record { partition = l.slot.partition; index = i }) k ≡ []
