use Rattle.std.proofs.Common.{◌≡◌}
use Rattle.ring_names.specs.Lists.{has}
use Rattle.plan_text.specs.Changes.{numbers}
use Rattle.plan_goal.specs.Rings.{flags}
use Rattle.plan_goal.proofs.sized.leavers_of.Given as goal

abbrev pub invariant-nodes : goal.invariant-nodes
invariant-nodes l = l.leavers.items ≡ flags (λ x. has x (numbers l.leaves)) l.node
