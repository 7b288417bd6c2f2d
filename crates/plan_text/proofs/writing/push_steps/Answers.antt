use Rattle.ring_table.specs.Value.{names_of}
use Rattle.std.specs.Prelude.{slice_get}
use Rattle.texts.proofs.Places.{lines-more}
use Rattle.plan_text.specs.Spelling.{step_fields}
use Rattle.plan_text.proofs.WriteLaws.{step-is}
use Rattle.plan_text.proofs.writing.push_steps.Goals as goal

pub loop-n-preserved : goal.loop-n-preserved
loop-n-preserved c = lines-more c.args.plan.now c.loop-n.n (record { step = c.step.result.now; after = c.deps.result.now })
    (step-is (slice_get c.args.plan.now c.loop-n.n) c.step.result.now c.deps.result.now c.step.ensures.value c.deps.ensures.value)
    (step_fields (names_of c.args.ring.now)) c.args.out.now.items c.loop-n.out.items c.push_step.new.out.items c.loop-n.invariant c.in_ok-push_step.ensures
