use Rattle.std.proofs.Common.{◌∙◌, sym}
use Rattle.plan_order.specs.Order.{order}
use Rattle.plan_stage.proofs.Noted.{at-noted}
use Rattle.plan_stage.proofs.missed.note_step.Goals as goal

pub returns-in_default : goal.returns-in_default
returns-in_default c = record {
  holds = at-noted c.args.context.now.ring.now c.args.context.now.plan.now (order c.args.context.now) c.note.new.self c.args.partition c.args.number c.in-Err.refusal c.note.ensures.noted
      (c.in-Err.ensures c.in_default.not-OutOfMemory);
  clean = λ none. absurd (let e = sym none ∙ c.in-Err.ensures c.in_default.not-OutOfMemory in cc);
  stays = c.note.ensures.stays;
  memory = tt;
}
