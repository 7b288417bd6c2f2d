use Rattle.plan_stage.proofs.Several.{HoldsBelow}
use Rattle.plan_stage.proofs.holding.Holdings.of.Given as goal

abbrev pub invariant-loop-index : goal.invariant-loop-index
invariant-loop-index l = HoldsBelow l.ring l.plan l.partition l.index l.slots.items
