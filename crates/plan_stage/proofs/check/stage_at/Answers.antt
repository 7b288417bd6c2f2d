use Rattle.std.proofs.Common.{◌<◌, length, arith}
use Rattle.plan_text.specs.Steps.{steps_of}
use Rattle.plan_stage.specs.Looking.Walk.{stage_of}
use Rattle.plan_stage.proofs.Stages.{stage-next}
use Rattle.plan_stage.proofs.check.stage_at.Goals as goal

pub loop-i-preserved : goal.loop-i-preserved
loop-i-preserved c =
    let ring = c.args.ring.now in
    let plan = c.args.plan.now in
    let numbers = c.slot_steps-numbers.ensures.value in
    let within : c.loop-i.i < length c.slot_steps-numbers.result.now = omega arith in
    let l : c.loop-i.i < length (steps_of plan c.args.slot) = rw numbers at within in
    stage-next ring plan c.args.slot c.loop-i.i (stage_of c.loop-i.walk) (stage_of c.act.new.self) c.step.result.now l c.loop-i.invariant (rw numbers at c.step.ensures.value) c.in_ok-act.ensures.ok
