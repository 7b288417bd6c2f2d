use Rattle.std.proofs.Common.{◌≡◌, ◌+◌, take}
use Rattle.ring_core.specs.Replays.{Follows}
use Rattle.history_watch.proofs.watch.follow_all.Given as goal

abbrev pub invariant-loop-place : goal.invariant-loop-place
invariant-loop-place l = record {
  follows : Follows l.fn.world (take l.place l.entries) l.world;
  counted : l.count ≡ l.fn.count + l.place;
}
