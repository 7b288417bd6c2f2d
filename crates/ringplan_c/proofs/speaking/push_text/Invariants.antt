use Rattle.std.proofs.Common.{◌≡◌, ◌++◌, ℕ, List}
use Rattle.ringplan_c.proofs.speaking.push_text.Given as goal

abbrev pub invariant-loop-chunk : goal.invariant-loop-chunk
invariant-loop-chunk l = (more : List ℕ) × (l.out.items ≡ l.fn.out.items ++ more)
