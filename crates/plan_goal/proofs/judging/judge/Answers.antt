use Rattle.plan_goal.specs.Proposals.{Makes}
use Rattle.plan_goal.proofs.Turned.{turned-away}
use Rattle.plan_goal.proofs.judging.judge.Goals as goal

pub returns-in-Err-clause-refused : goal.returns-in-Err-clause-refused
returns-in-Err-clause-refused c =
    let made : Makes c.args.ring c.args.change.now c.args.plan c.args.cert = c.makes.ensures.0 c.if-not-makes.false in
    turned-away c.args.ring c.args.change.now c.args.plan c.args.cert c.in-Err.turned.refusal c.len.ensures.valid made c.in-Err.ensures.refused
