-- The order of steps that a context knows.
use Rattle.std.specs.Prelude.{ℕ, Bool}
use Rattle.plan_order.specs.declared.context.Context.{Context}
use Rattle.plan_order.specs.Facts.{is_ordered}

-- whether step a comes before step b by a dependency, or by a path that was verified
abbrev pub order : Context → ℕ → ℕ → Bool
order context = is_ordered context.plan.now context.facts.now
