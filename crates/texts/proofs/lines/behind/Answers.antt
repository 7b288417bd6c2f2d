use Rattle.std.proofs.Common.{rules}
use Rattle.texts.specs.Left.{next_number}
use Rattle.texts.proofs.lines.behind.Goals as goal

pub returns-then-line-lt4294967295-clause-value : goal.returns-then-line-lt4294967295-clause-value
unfolding next_number
returns-then-line-lt4294967295-clause-value c = search rules
