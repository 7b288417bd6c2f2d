use Rattle.std.proofs.Common.{◌≡◌}
use Rattle.plan_stage.specs.Stage.{stage}
use Rattle.plan_stage.specs.Looking.Walk.{stage_of}
use Rattle.plan_stage.proofs.check.stage_at.Given as goal

abbrev pub invariant-loop-i : goal.invariant-loop-i
invariant-loop-i l = stage_of l.walk ≡ stage l.ring l.plan l.fn.slot l.i
