use Rattle.std.proofs.Common.{map}
use Rattle.ring_names.specs.Finding.{FindsBelow, Knows}
use Rattle.ring_names.proofs.finder.Finder.fill.Given as goal

abbrev pub invariant-loop-number : goal.invariant-loop-number
invariant-loop-number l = FindsBelow l.table l.self (map (λ b. b.items) l.list) l.number × Knows l.self (map (λ b. b.items) l.list)
