use Rattle.std.proofs.Common.{rules}
use Rattle.plan_order.proofs.path.verify_fact.Goals as goal

pub links-preserved : goal.links-preserved
links-preserved c = search rules
