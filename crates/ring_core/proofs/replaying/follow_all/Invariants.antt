use Rattle.std.proofs.Common.{take}
use Rattle.ring_core.specs.Replays.{Follows}
use Rattle.ring_core.proofs.replaying.follow_all.Given as goal

abbrev pub invariant-loop-place : goal.invariant-loop-place
invariant-loop-place l = Follows l.fn.world (take l.place l.history) l.world
