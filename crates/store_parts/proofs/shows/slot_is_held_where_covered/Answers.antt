use Rattle.store_parts.proofs.SlotHolds.{held}
use Rattle.store_parts.proofs.shows.slot_is_held_where_covered.Goals as goal

pub returns : goal.returns
returns c = held
