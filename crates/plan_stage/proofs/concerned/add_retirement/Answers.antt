use Rattle.std.proofs.Common.{sym}
use Rattle.plan_stage.proofs.Gathering.{retirement-within}
use Rattle.plan_stage.proofs.concerned.add_retirement.Goals as goal

pub add_number-requires : goal.add_number-requires
add_number-requires c = retirement-within c.args.plan.now c.args.node.0 c.in-Some.number (sym c.in-Some.ensures.value)
