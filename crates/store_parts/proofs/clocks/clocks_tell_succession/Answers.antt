use Rattle.store_parts.proofs.ClocksOrder.{tells}
use Rattle.store_parts.proofs.clocks.clocks_tell_succession.Goals as goal

pub returns : goal.returns
returns c = tells
