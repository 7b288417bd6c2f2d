use Rattle.std.proofs.Common.{◌∙◌, ap}
use Rattle.plan_goal.specs.Joins.{joins_alone}
use Rattle.plan_goal.proofs.Joining.{joins-few, joins-pass}
use Rattle.plan_goal.proofs.alone.propose_joins.Goals as goal

pub joins_alone-requires : goal.joins_alone-requires
joins_alone-requires c = rw c.as_slice.ensures (joins-few c.args.ring c.args.change.now c.n.ensures.valid c.requires.change)

pub returns-in-Err-clause-memory : goal.returns-in-Err-clause-memory
returns-in-Err-clause-memory c =
    let made = c.in_ok-plan.ensures.plan ∙ ap joins_alone c.as_slice.ensures in
    let passed = joins-pass c.args.ring c.args.change.now c.in_ok-plan.plan c.no_claims.result c.requires.change c.requires.nobody made c.no_claims.ensures in
    c.in-Err.ensures.memory passed.0 passed.1
