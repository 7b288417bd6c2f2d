use Rattle.std.proofs.Common.{◌≡◌, ◌++◌, map, take}
use Rattle.std.specs.List.{flat_map}
use Rattle.plan_goal.specs.GoalsReached.{dead_named}
use Rattle.plan_goal.proofs.goal.dead_by.Given as goal

abbrev pub invariant-loop-entry : goal.invariant-loop-entry
invariant-loop-entry l = map (λ name. name.items) l.names.items ≡ map (λ name. name.items) l.options.dead.items ++ flat_map (λ x. dead_named x.fact) (take l.entry-index l.entries)
