use Rattle.std.proofs.Common.{◌≡◌, ◌≢◌, ℕ}
use Rattle.ring_names.specs.declared.ids.Slot.{Slot}
use Rattle.store_maps.specs.declared.key_id.KeyId.{KeyId}
use Rattle.ring_hints.specs.Hints.{hinted_at, kept_count}
use Rattle.ring_hints.proofs.hints.Hints.drop_keeper.Given as goal

abbrev pub invariant-slots : goal.invariant-slots
invariant-slots l = (x : ℕ) (s : Slot) (k : KeyId) → x ≢ l.keeper.0 → hinted_at l.self x s k ≡ hinted_at l.initial.self x s k

abbrev pub decreases-slots : goal.decreases-slots
decreases-slots l = kept_count l.self
