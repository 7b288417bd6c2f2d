use Rattle.std.proofs.Common.{arith}
use Rattle.std.proofs.lemmas.List.{take_rest}
use Rattle.ring_clock.proofs.Counting.{no_longer, dropped}
use Rattle.ring_clock.proofs.Entries.{entries}
use Rattle.ring_clock.proofs.merge.is_at_most.Goals as goal

-- the second has fewer writers
pub returns-then-second-first : goal.returns-then-second-first
returns-then-second-first c = (
  λ h. absurd cc,
  λ h. absurd (omega (arith, c.if-second-first.true, no_longer entries c.args.second.now c.args.first.now c.requires.first c.requires.second h)),
)

pub unaligned-requires-clause-first : goal.unaligned-requires-clause-first
unaligned-requires-clause-first c = rw take_rest (dropped entries c.in-Some.passed c.args.first.now c.requires.first)

pub unaligned-requires-clause-second : goal.unaligned-requires-clause-second
unaligned-requires-clause-second c = rw take_rest (dropped entries c.in-Some.passed c.args.second.now c.requires.second)
