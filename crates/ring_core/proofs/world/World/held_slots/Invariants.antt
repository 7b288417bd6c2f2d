use Rattle.ring_core.proofs.Masks.{Masked}
use Rattle.ring_core.proofs.world.World.held_slots.Given as goal

abbrev pub invariant-loop-index : goal.invariant-loop-index
invariant-loop-index l = Masked l.self l.put l.mask l.index
