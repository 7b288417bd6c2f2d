use Rattle.store_parts.proofs.ClocksJoin.{join_is}
use Rattle.store_parts.proofs.found.found_clocks_join.Goals as goal

pub returns : goal.returns
returns c = join_is
