use Rattle.plan_stage.proofs.Gathering.{sorted-ascends}
use Rattle.plan_moves.proofs.waits.in_order.Goals as goal

pub returns-clause-ascending : goal.returns-clause-ascending
returns-clause-ascending c = sorted-ascends c.args.numbers.now.keys c.iter.ensures.ordered
