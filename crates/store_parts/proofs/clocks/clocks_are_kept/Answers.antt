use Rattle.store_parts.proofs.ClocksStay.{opening_clocks, clocks_stay, clocks_grow}
use Rattle.store_parts.proofs.clocks.clocks_are_kept.Goals as goal

pub returns-clause-opening : goal.returns-clause-opening
returns-clause-opening c = opening_clocks

pub returns-clause-stay : goal.returns-clause-stay
returns-clause-stay c = clocks_stay

pub returns-clause-grow : goal.returns-clause-grow
returns-clause-grow c = clocks_grow
