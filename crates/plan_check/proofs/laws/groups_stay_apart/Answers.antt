use Rattle.plan_check.proofs.Apart.{apart_always}
use Rattle.plan_check.proofs.laws.groups_stay_apart.Goals as goal

pub returns : goal.returns
returns c turn left = apart_always c.args.ring.now c.args.plan.now (record { is_ring = c.n.ensures.valid; is_plan = c.len.ensures.valid; in_turn = turn }) left
