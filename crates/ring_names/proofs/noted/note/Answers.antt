use Rattle.std.proofs.Common.{◌≡◌, ℕ, List, Some, length}
use Rattle.ring_names.specs.Noted.{IsNoted, noted_at}
use Rattle.ring_names.specs.declared.noted.Noted.{Noted}
use Rattle.ring_names.proofs.noted.note.Goals as goal

kept : (old new : List Noted) → length new ≡ length old → ((at sum n : ℕ) → noted_at old at sum ≡ Some n → noted_at new at sum ≡ Some n) → (b : List ℕ) (n : ℕ) → IsNoted old b n → IsNoted new b n
kept old new size each b n (near, few, at) = (near, few, rw size (each _ _ n at))

pub returns-then-put-clause-kept : goal.returns-then-put-clause-kept
returns-then-put-clause-kept c = rw (← c.loop-near.invariant) (kept c.loop-near.table c.put.new.table c.put.ensures.size c.put.ensures.kept)
