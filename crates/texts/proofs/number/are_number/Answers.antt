use Rattle.std.proofs.Common.{rules}
use Rattle.texts.proofs.number.are_number.Goals as goal

pub returns-else-first-ne48 : goal.returns-else-first-ne48
returns-else-first-ne48 c = search rules
