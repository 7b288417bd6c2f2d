use Rattle.store_parts.proofs.ClocksOrder.{own_tells}
use Rattle.store_parts.proofs.clocks.own_counters_tell.Goals as goal

pub returns : goal.returns
returns c = own_tells
