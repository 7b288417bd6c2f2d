use Rattle.std.proofs.Common.{[]}
use Rattle.history_laws.specs.Parts.{or_none}
use Rattle.history_laws.proofs.Cutting.{in_two}
use Rattle.history_laws.proofs.laws.parts_follow.Goals as goal

pub returns : goal.returns
returns c ring is_in first second = in_two ring (or_none ring is_in) first second [] []
