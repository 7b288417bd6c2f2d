use Rattle.std.proofs.Common.{◌≡◌, ◌-◌, ◌+◌, ℕ, length}
use Rattle.store_parts.specs.Lasts.{last_of}
use Rattle.store_parts.proofs.lasts.Lasts.set.Given as goal

abbrev pub invariant-rows : goal.invariant-rows
invariant-rows l = (k w : ℕ) → last_of l.self k w ≡ last_of l.fn.self k w

abbrev pub decreases-rows : goal.decreases-rows
decreases-rows l = l.key + 1 - length l.self.rows.items
