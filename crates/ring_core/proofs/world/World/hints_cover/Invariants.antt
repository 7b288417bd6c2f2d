use Rattle.ring_core.proofs.KeepersCover.{NoneBefore}
use Rattle.ring_core.proofs.world.World.hints_cover.Given as goal

abbrev pub invariant-keepers : goal.invariant-keepers
invariant-keepers l = NoneBefore l.self.parts.hints l.at.slot l.at.key l.clock l.initial.keeper-iterator l.keeper-iterator
