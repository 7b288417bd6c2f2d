use Rattle.std.proofs.Common.{◌≡◌, ◌++◌, List, length}
use Rattle.plan_runs.specs.declared.event.Event.{Event}
use Rattle.ring_script.specs.Steps.{Plays}
use Rattle.ring_script.proofs.playing.play_queue.Given as goal

abbrev pub invariant-events : goal.invariant-events
invariant-events l = (front : List Event) × (l.fn.events ≡ front ++ l.events) × (length front ≡ l.place) × Plays l.fn.world front l.world l.fn.out.items l.out.items

abbrev pub decreases-events : goal.decreases-events
decreases-events l = length l.events
