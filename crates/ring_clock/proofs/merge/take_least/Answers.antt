use Rattle.std.proofs.Common.{subst}
use Rattle.ring_clock.specs.Clock.{IsClock}
use Rattle.ring_clock.proofs.Counting.{first_less, second_less}
use Rattle.ring_clock.proofs.Entries.{entries}
use Rattle.ring_clock.proofs.merge.take_least.Goals as goal

-- src/merge.rt:57:17
pub returns-then-entry-other-clause-some : goal.returns-then-entry-other-clause-some
returns-then-entry-other-clause-some c =
    let mine = (c.in-Some-Some.ensures).cases.0 in
    let theirs = (c.in-Some-Some.ensures').cases.0 in
    let law = first_less entries c.in-Some-Some.entry.now c.in-Some-Some.other.now c.in-Some-Some.later.now c.in-Some-Some.later_others.now c.if-entry-other.true (subst IsClock mine c.requires.first) (subst IsClock theirs c.requires.second) in
    rw (mine, theirs) law

-- src/merge.rt:61:17
pub returns-then-other-entry-clause-some : goal.returns-then-other-entry-clause-some
returns-then-other-entry-clause-some c =
    let mine = (c.in-Some-Some.ensures).cases.0 in
    let theirs = (c.in-Some-Some.ensures').cases.0 in
    let law = second_less entries c.in-Some-Some.entry.now c.in-Some-Some.other.now c.in-Some-Some.later.now c.in-Some-Some.later_others.now c.if-other-entry.true (subst IsClock mine c.requires.first) (subst IsClock theirs c.requires.second) in
    rw (mine, theirs) law
