use Rattle.std.proofs.Common.{refl, arith}
use Rattle.ring_clock.specs.Places.{entry_of}
use Rattle.ring_clock.proofs.Places.{entries_below, below_entries}
use Rattle.ring_clock.proofs.full.Full.is_above.Goals as goal

pub returns-then-counter-entry : goal.returns-then-counter-entry
returns-then-counter-entry c = (
  λ h. absurd cc,
  λ h. absurd (let le = below_entries c.args.entries.now c.args.self.now c.requires h c.loop-entry.entry-index (entry_of 0 0) c.loop-entry-test.true in omega arith),
)

pub returns : goal.returns
returns c = (
  λ h. entries_below c.args.entries.now c.args.self.now c.requires (λ i e l. c.loop-entry.invariant i e (omega arith)),
  λ h. refl,
)
