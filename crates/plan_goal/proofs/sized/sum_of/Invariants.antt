use Rattle.std.proofs.Common.{◌≡◌, slice_index}
use Rattle.plan_goal.specs.Sized.{sum_below}
use Rattle.plan_goal.proofs.sized.sum_of.Given as goal

abbrev pub invariant-numbers : goal.invariant-numbers
invariant-numbers l = l.sum ≡ sum_below (slice_index l.numbers) l.place
