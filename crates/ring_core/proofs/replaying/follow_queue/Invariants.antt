use Rattle.std.proofs.Common.{◌≡◌, ◌++◌, List, length}
use Rattle.plan_runs.specs.declared.event.Entry.{Entry}
use Rattle.ring_core.specs.Replays.{Follows}
use Rattle.ring_core.proofs.replaying.follow_queue.Given as goal

abbrev pub invariant-entries : goal.invariant-entries
invariant-entries l = (front : List Entry) × (l.fn.entries ≡ front ++ l.entries) × (length front ≡ l.place) × Follows l.fn.world front l.world

abbrev pub decreases-entries : goal.decreases-entries
decreases-entries l = length l.entries
