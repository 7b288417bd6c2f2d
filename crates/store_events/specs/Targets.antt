-- The targets of puts.
use Rattle.std.specs.Prelude.{◌≡◌, ℕ, ◌<◌, true, false, Option, MatchOption}
use Rattle.ring_names.specs.declared.ids.Slot.{Slot}
use Rattle.ring_table.specs.Value.{RingValue}
use Rattle.plan_runs.specs.Guards.{put_exists}
use Rattle.plan_runs.specs.Versions.{put_slot}
use Rattle.plan_runs.specs.World.{World}

-- it is the slot of that index of the put's partition, if there are both
abbrev pub IsPutSlot : RingValue → World → ℕ → ℕ → Option Slot → Type 0
IsPutSlot ring w v i o =
    MatchOption o (put_exists ring w v i ≡ false) (λ s. (put_exists ring w v i ≡ true) × (s ≡ put_slot ring w v i) × (s.partition < ring.q))
