use Rattle.std.proofs.Common.{◌∷◌, ◌∙◌, sym, subst}
use Rattle.std.specs.Prelude.{IfSome}
use Rattle.ring_clock.specs.Blocks.{AreBlocks}
use Rattle.ring_clock.specs.Merge.{BlocksStandFor}
use Rattle.ring_clock.proofs.Counting.{behind, left, again}
use Rattle.ring_clock.proofs.Ascending.{blocks}
use Rattle.ring_clock.proofs.blocks.push_joined.Goals as goal

-- src/blocks.rt:150:38
pub take_joined-requires-clause-first : goal.take_joined-requires-clause-first
take_joined-requires-clause-first c = left blocks c.groups.out.items c.groups.rest.now c.groups.invariant.first

-- src/blocks.rt:150:38
pub take_joined-requires-clause-second : goal.take_joined-requires-clause-second
take_joined-requires-clause-second c = left blocks c.groups.out.items c.groups.others.now c.groups.invariant.second

-- src/blocks.rt:150:5
pub groups-preserved : goal.groups-preserved
groups-preserved c =
    let taken = subst (λ o. IfSome o (λ b. BlocksStandFor c.groups.rest.now c.groups.others.now (b ∷ c.take_joined.new.first.now) (b ∷ c.take_joined.new.second.now))) c.in-Some.is (c.in_ok-block.ensures).some in
    let stand = behind blocks c.groups.out.items c.groups.rest.now c.groups.others.now (c.in-Some.block ∷ c.take_joined.new.first.now) (c.in-Some.block ∷ c.take_joined.new.second.now) taken c.groups.invariant.first c.groups.invariant.second in
    let first = again c.push.new.self.items c.groups.out.items c.in-Some.block c.take_joined.new.first.now (c.in_ok-push.ensures).items in
    let second = again c.push.new.self.items c.groups.out.items c.in-Some.block c.take_joined.new.second.now (c.in_ok-push.ensures).items in
    record {
      first = subst AreBlocks (sym first) stand.first;
      second = subst AreBlocks (sym second) stand.second;
      counters = λ w. rw (first, second) (stand.counters w ∙ c.groups.invariant.counters w);
    }
