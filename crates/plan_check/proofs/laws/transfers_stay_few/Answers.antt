use Rattle.plan_check.proofs.Few.{few_always}
use Rattle.plan_check.proofs.laws.transfers_stay_few.Goals as goal

pub returns : goal.returns
returns c turn settled chains covered = few_always c.args.ring.now c.args.plan.now (record { is_ring = c.n.ensures.valid; is_plan = c.len.ensures.valid; in_turn = turn }) settled chains covered
