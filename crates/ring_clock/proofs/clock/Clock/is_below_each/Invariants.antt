use Rattle.std.proofs.Common.{ℕ, ◌<◌, IfNone, IfSome, get_or}
use Rattle.ring_clock.specs.declared.entry.Entry.{Entry}
use Rattle.ring_clock.specs.Clock.{counter}
use Rattle.ring_clock.specs.Groups.{HasGroup, IsBlockFor}
use Rattle.ring_clock.proofs.clock.Clock.is_below_each.Given as goal

-- the counters of those passed are below theirs, and the block is that of the group
pub record Below (l : goal.Live-loop-entry) : Type 0 where
  pub passed : (i : ℕ) (e : Entry) → i < l.entry-index → counter l.self (get_or l.entries i e).writer.0 < (get_or l.entries i e).counter
  pub some : IfSome l.block (λ b. IsBlockFor l.group l.self b.now)
  pub none : IfNone l.block (¬ (HasGroup l.group l.self))

abbrev pub invariant-loop-entry : goal.invariant-loop-entry
invariant-loop-entry l = Below l
