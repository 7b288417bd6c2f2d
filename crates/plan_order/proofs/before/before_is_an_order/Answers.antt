use Rattle.plan_order.proofs.Reaching.{join, less}
use Rattle.plan_order.proofs.before.before_is_an_order.Goals as goal

pub returns-clause-transitive : goal.returns-clause-transitive
returns-clause-transitive c = join c.args.plan.now

pub returns-clause-lesser : goal.returns-clause-lesser
returns-clause-lesser c = λ a b. less c.args.plan.now a b c.len.ensures.valid
