use Rattle.std.proofs.Common.{◌≡◌, ℕ, ◌+◌, ◌-◌, length}
use Rattle.plan_cover.specs.Looking.Places.{listed_at}
use Rattle.plan_cover.proofs.by_place.ByPlace.reach.Given as goal

abbrev pub invariant-loop-self : goal.invariant-loop-self
invariant-loop-self g l = (p : ℕ) → listed_at l.self p ≡ listed_at l.fn.self p

abbrev pub decreases-loop-self : goal.decreases-loop-self
decreases-loop-self g l = l.place + 1 - length l.self.lists.items
