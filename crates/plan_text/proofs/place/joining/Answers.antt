use Rattle.std.proofs.Common.{rules}
use Rattle.plan_text.specs.Reading.{joining_at}
use Rattle.plan_text.proofs.place.joining.Goals as goal

pub returns-in_default : goal.returns-in_default
unfolding joining_at
returns-in_default c = search rules
