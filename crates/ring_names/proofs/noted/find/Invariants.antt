use Rattle.std.proofs.Common.{◌≡◌, ◌<◌, ◌+◌, ℕ, Some, map, slice_get}
use Rattle.ring_names.specs.Noted.{noted_at}
use Rattle.ring_names.proofs.noted.find.Given as goal

abbrev pub invariant-loop-near : goal.invariant-loop-near
invariant-loop-near l = (near n : ℕ) → near < l.near → noted_at l.table (l.first + near) l.sum ≡ Some n → slice_get (map (λ b. b.items) l.list) n ≡ Some l.bytes → ⊥
