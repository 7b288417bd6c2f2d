use Rattle.store_parts.proofs.StoredGrows.{grown}
use Rattle.store_parts.proofs.stored.stored_sets_grow.Goals as goal

pub returns : goal.returns
returns c = grown
