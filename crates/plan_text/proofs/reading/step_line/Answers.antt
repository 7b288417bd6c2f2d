use Rattle.std.proofs.Common.{◌≡◌, rules}
use Rattle.plan_text.specs.Reading.{said_at}
use Rattle.plan_text.proofs.PlanLaws.{next-if}
use Rattle.plan_text.proofs.PlanLates.{said-at}
use Rattle.plan_text.proofs.reading.step_line.Goals as goal

pub returns-clause-next : goal.returns-clause-next
unfolding said_at
returns-clause-next c =
    next-if c.args.ring.now c.n-slots.ensures.valid c.args.plan.now c.args.fields.number c.args.fields.fields _ c.len.ensures.valid.dependencies (search rules)

pub returns-clause-at : goal.returns-clause-at
unfolding said_at
returns-clause-at c =
    let value : c.finish_both.result ≡ said_at c.args.ring.now c.args.plan.now c.args.fields.number c.args.fields.fields = search rules in
    rw value (said-at c.args.ring.now c.args.plan.now c.args.fields.number c.args.fields.fields)
