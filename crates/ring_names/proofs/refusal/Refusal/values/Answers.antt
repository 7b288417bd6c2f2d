use Rattle.std.proofs.Common.{rules}
use Rattle.ring_names.proofs.refusal.Refusal.values.Goals as goal

pub returns-in-CoverMissing : goal.returns-in-CoverMissing
returns-in-CoverMissing c = search rules
