use Rattle.std.proofs.Common.{◌≡◌, ◌+◌, ◌<◌, ℕ, true}
use Rattle.std.specs.List.{list_all}
use Rattle.ring_board.specs.Kinds.{is_step}
use Rattle.ring_board.specs.Finishing.{list_at}
use Rattle.ring_board.proofs.agreeing.are_workers.Given as goal

abbrev pub invariant-loop-worker : goal.invariant-loop-worker
invariant-loop-worker l = (i : ℕ) → i < l.worker → list_all (λ r. is_step r.event) (list_at l.lists (l.first + i)) ≡ true
