use Rattle.std.proofs.Common.{rules}
use Rattle.plan_text.proofs.after.dependencies.Goals as goal

pub returns-then-not-is_at_most : goal.returns-then-not-is_at_most
returns-then-not-is_at_most c = search rules

pub returns-then-not-are_below-2 : goal.returns-then-not-are_below-2
returns-then-not-are_below-2 c = search rules
