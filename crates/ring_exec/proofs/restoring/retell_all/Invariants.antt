use Rattle.std.proofs.Common.{◌≡◌, ◌+◌, ◌≤◌, ◌++◌, length, take}
use Rattle.std.specs.Vec.{vec_len, vec_capacity}
use Rattle.ring_core.specs.Replays.{Follows}
use Rattle.ring_exec.proofs.restoring.retell_all.Given as goal

abbrev pub invariant-loop-place : goal.invariant-loop-place
invariant-loop-place l = record {
  items : l.history.items ≡ l.fn.history.items ++ take l.place l.entries;
  len : vec_len l.history ≡ vec_len l.fn.history + l.place;
  room : vec_len l.fn.history + length l.entries ≤ vec_capacity l.history;
  followed : Follows l.fn.world (take l.place l.entries) l.world;
}
