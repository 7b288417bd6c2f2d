use Rattle.plan_check.proofs.Promised.{holds_puts}
use Rattle.plan_check.proofs.laws.puts_stay_held.Goals as goal

pub returns : goal.returns
returns c turn enough left = holds_puts c.args.ring.now c.args.plan.now (record { known = record { is_ring = c.n.ensures.valid; is_plan = c.len.ensures.valid; in_turn = turn }; sources = enough; left = left })
