-- How many losses slots may have had.
use Rattle.std.specs.Prelude.{◌≤◌}
use Rattle.ring_names.specs.declared.ids.Slot.{Slot}
use Rattle.plan_runs.specs.World.{World}

-- no slot has had more losses than there were
abbrev pub LossesFit : World → Type 0
LossesFit w = (slot : Slot) → w.lost slot ≤ w.losses
