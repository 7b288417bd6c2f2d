use Rattle.store_parts.proofs.GetsFound.{get_stays}
use Rattle.store_parts.proofs.found.gets_are_kept.Goals as goal

pub returns : goal.returns
returns c = get_stays
