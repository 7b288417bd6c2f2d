use Rattle.plan_check.proofs.Refused.{certified-from, none-from}
use Rattle.plan_check.proofs.laws.first_is_none_where_certified.Goals as goal

-- no clause fails exactly if the plan is certified
pub returns : goal.returns
returns c = (
  certified-from c.args.ring.now c.args.plan.now c.args.cert.now c.n.ensures.valid c.requires,
  none-from c.args.ring.now c.args.plan.now c.args.cert.now,
)
