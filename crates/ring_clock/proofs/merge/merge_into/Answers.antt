use Rattle.std.proofs.Common.{◌∷◌, ◌∙◌, sym, subst}
use Rattle.ring_clock.specs.Clock.{IsClock}
use Rattle.ring_clock.proofs.Counting.{behind, left, again}
use Rattle.ring_clock.proofs.Entries.{entries}
use Rattle.ring_clock.proofs.merge.merge_into.Goals as goal

-- src/merge.rt:82:39
pub take_least-requires-clause-first : goal.take_least-requires-clause-first
take_least-requires-clause-first c = left entries c.entries.out.items c.entries.rest.now c.entries.invariant.first

-- src/merge.rt:82:39
pub take_least-requires-clause-second : goal.take_least-requires-clause-second
take_least-requires-clause-second c = left entries c.entries.out.items c.entries.others.now c.entries.invariant.second

-- src/merge.rt:82:5
pub entries-preserved : goal.entries-preserved
entries-preserved c =
    let stand = behind entries c.entries.out.items c.entries.rest.now c.entries.others.now (c.in-Some.entry ∷ c.take_least.new.first.now) (c.in-Some.entry ∷ c.take_least.new.second.now) (c.in-Some.ensures).some c.entries.invariant.first c.entries.invariant.second in
    let first = again c.push.new.self.items c.entries.out.items c.in-Some.entry c.take_least.new.first.now (c.in_ok-push.ensures).items in
    let second = again c.push.new.self.items c.entries.out.items c.in-Some.entry c.take_least.new.second.now (c.in_ok-push.ensures).items in
    record {
      first = subst IsClock (sym first) stand.first;
      second = subst IsClock (sym second) stand.second;
      counters = λ w. rw (first, second) (stand.counters w ∙ c.entries.invariant.counters w);
    }
