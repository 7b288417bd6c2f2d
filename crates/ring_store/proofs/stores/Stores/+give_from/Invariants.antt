use Rattle.std.proofs.Common.{◌+◌, ◌-◌}
use Rattle.ring_store.proofs.Spots.{turns}
use Rattle.ring_store.proofs.stores.Stores.+give_from.Given as goal

abbrev pub decreases-give_from : goal.decreases-give_from
decreases-give_from l = turns l.mirror + (16 - l.chunk)
