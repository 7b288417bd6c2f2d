use Rattle.ringplan_answers.proofs.Verdicts.{gives-plan}
use Rattle.ringplan_answers.proofs.bundle.plan_bundle.Goals as goal

pub returns-in-Ok-clause-plans : goal.returns-in-Ok-clause-plans
returns-in-Ok-clause-plans c = gives-plan c.args.bytes.now c.in-Ok.wanted c.plan_wanted.result c.in-Ok.ensures.read c.plan_wanted.ensures
