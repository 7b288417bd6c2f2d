use Rattle.std.proofs.Common.{take}
use Rattle.ring_script.specs.Steps.{Plays}
use Rattle.ring_script.proofs.playing.play_events.Given as goal

abbrev pub invariant-loop-place : goal.invariant-loop-place
invariant-loop-place l = Plays l.fn.world (take l.place l.events) l.world l.fn.out.items l.out.items
