use Rattle.store_parts.proofs.StoredLasts.{all_stay, all_with_clock}
use Rattle.store_parts.proofs.stored.stored_sets_last.Goals as goal

pub returns-clause-event : goal.returns-clause-event
returns-clause-event c = all_stay

pub returns-clause-new_clock : goal.returns-clause-new_clock
returns-clause-new_clock c = all_with_clock
