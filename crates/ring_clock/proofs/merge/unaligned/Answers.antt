use Rattle.std.proofs.Common.{refl, arith}
use Rattle.ring_clock.proofs.Counting.{rest, none_facing, later_facing, front_facing, pass, compare}
use Rattle.ring_clock.proofs.Entries.{entries}
use Rattle.ring_clock.proofs.merge.unaligned.Goals as goal

-- the second list has ended
pub returns-in_default-split_first : goal.returns-in_default-split_first
returns-in_default-split_first c = (
  λ h. absurd cc,
  λ h. absurd (none_facing entries c.in-Some.entry.now c.in-Some.later.now c.entries.rest.now c.entries.others.now (c.in-Some.ensures).cases.0 (c.in_default-split_first.ensures).cases c.entries.invariant.first (c.entries.invariant.decide.1 h)),
)

-- the second list has not the writer
pub returns-then-entry-other : goal.returns-then-entry-other
returns-then-entry-other c = (
  λ h. absurd cc,
  λ h. absurd (later_facing entries c.in-Some.entry.now c.in-Some-split_first.other.now c.in-Some.later.now c.in-Some-split_first.later_others.now c.entries.rest.now c.entries.others.now (c.in-Some.ensures).cases.0 (c.in-Some-split_first.ensures).cases.0 c.if-entry-other.true c.entries.invariant.first c.entries.invariant.second (c.entries.invariant.decide.1 h)),
)

-- the second list has a lesser counter of the writer
pub returns-then-other-entry : goal.returns-then-other-entry
returns-then-other-entry c = (
  λ h. absurd cc,
  λ h. absurd (omega (arith, c.if-other-entry.true, front_facing entries c.in-Some.entry.now c.in-Some-split_first.other.now c.in-Some.later.now c.in-Some-split_first.later_others.now c.entries.rest.now c.entries.others.now (c.in-Some.ensures).cases.0 (c.in-Some-split_first.ensures).cases.0 c.if-entry-other-2.true c.entries.invariant.first c.entries.invariant.second (c.entries.invariant.decide.1 h) c.in-Some.entry.now.writer.0 refl)),
)

-- one writer in front of both
pub entries-preserved-else-other-entry : goal.entries-preserved-else-other-entry
entries-preserved-else-other-entry c =
    let law = compare entries c.in-Some.entry.now c.in-Some-split_first.other.now c.in-Some.later.now c.in-Some-split_first.later_others.now c.entries.rest.now c.entries.others.now (c.in-Some.ensures).cases.0 (c.in-Some-split_first.ensures).cases.0 c.if-entry-other-2.true (λ w. omega (arith, c.if-other-entry.false)) c.entries.invariant.first c.entries.invariant.second in
    record {
      first = rest entries c.in-Some.entry.now c.in-Some.later.now c.entries.rest.now (c.in-Some.ensures).cases.0 c.entries.invariant.first;
      second = rest entries c.in-Some-split_first.other.now c.in-Some-split_first.later_others.now c.entries.others.now (c.in-Some-split_first.ensures).cases.0 c.entries.invariant.second;
      decide = (λ h. c.entries.invariant.decide.0 (law.0 h), λ h. law.1 (c.entries.invariant.decide.1 h));
    }

-- only the second list has the writer in front of it
pub entries-preserved : goal.entries-preserved
entries-preserved c =
    let law = pass entries c.in-Some.entry.now c.in-Some-split_first.other.now c.in-Some.later.now c.in-Some-split_first.later_others.now c.entries.rest.now c.entries.others.now (c.in-Some.ensures).cases.0 (c.in-Some-split_first.ensures).cases.0 (grind (arith, c.if-entry-other.false, c.if-entry-other-2.false)) c.entries.invariant.first c.entries.invariant.second in
    record {
      first = c.entries.invariant.first;
      second = rest entries c.in-Some-split_first.other.now c.in-Some-split_first.later_others.now c.entries.others.now (c.in-Some-split_first.ensures).cases.0 c.entries.invariant.second;
      decide = (λ h. c.entries.invariant.decide.0 (law.0 h), λ h. law.1 (c.entries.invariant.decide.1 h));
    }
