use Rattle.std.proofs.Common.{rules}
use Rattle.plan_cover.proofs.linked.leads_on.Goals as goal

pub returns-in-Some : goal.returns-in-Some
returns-in-Some c = search rules
