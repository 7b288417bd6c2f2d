use Rattle.plan_check.proofs.Apart.{finished_first}
use Rattle.plan_check.proofs.laws.finished_steps_come_first.Goals as goal

pub returns : goal.returns
returns c turn = finished_first c.args.ring.now c.args.plan.now (record { is_ring = c.n.ensures.valid; is_plan = c.len.ensures.valid; in_turn = turn })
