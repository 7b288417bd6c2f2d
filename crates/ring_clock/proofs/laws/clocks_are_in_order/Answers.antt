use Rattle.ring_clock.proofs.Order.{succession}
use Rattle.ring_clock.proofs.laws.clocks_are_in_order.Goals as goal

pub returns : goal.returns
returns c = succession
