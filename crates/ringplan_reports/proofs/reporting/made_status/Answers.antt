use Rattle.ringplan_reports.proofs.Kept.{at_goal}
use Rattle.ringplan_reports.proofs.reporting.made_status.Goals as goal

pub returns-in-Goal : goal.returns-in-Goal
returns-in-Goal c = at_goal c.args.making c.in-Goal.exit c.goal_status.result c.in-Goal.is c.goal_status.ensures
