use Rattle.plan_check.proofs.Members.{members_always}
use Rattle.plan_check.proofs.laws.servers_stay_members.Goals as goal

pub returns : goal.returns
returns c turn members = members_always c.args.ring.now c.args.plan.now (record { is_ring = c.n.ensures.valid; is_plan = c.len.ensures.valid; in_turn = turn }) members
