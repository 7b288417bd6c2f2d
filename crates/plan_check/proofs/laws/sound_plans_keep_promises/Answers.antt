use Rattle.plan_check.proofs.Promised.{keeps_promises}
use Rattle.plan_check.proofs.laws.sound_plans_keep_promises.Goals as goal

pub returns : goal.returns
returns c sound = keeps_promises c.args.ring.now c.args.plan.now c.n.ensures.valid c.len.ensures.valid sound
