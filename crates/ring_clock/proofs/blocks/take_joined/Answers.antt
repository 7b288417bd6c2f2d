use Rattle.std.proofs.Common.{◌≡◌, ◌∙◌, subst, arith}
use Rattle.ring_clock.specs.Blocks.{AreBlocks}
use Rattle.ring_clock.specs.Groups.{group_in}
use Rattle.ring_clock.proofs.Counting.{first_less, second_less, first_alone, second_alone, joined_front}
use Rattle.ring_clock.proofs.Ascending.{blocks, in_place}
use Rattle.ring_clock.proofs.blocks.take_joined.Goals as goal

-- src/blocks.rt:122:17
pub returns-then-group-facing-clause-some : goal.returns-then-group-facing-clause-some
returns-then-group-facing-clause-some c =
    let mine = (c.in-Some-Some.ensures).cases.0 in
    let theirs = (c.in-Some-Some.ensures').cases.0 in
    let copied = (c.in_ok-try_copy-in-Some-Some.ensures) in
    let law = first_less blocks c.in-Some-Some.block.now c.in-Some-Some.other.now c.in-Some-Some.later.now c.in-Some-Some.later_others.now (grind (arith, c.if-group-facing.true)) (subst AreBlocks mine c.requires.first) (subst AreBlocks theirs c.requires.second) in
    rw (mine, theirs, copied) law

-- src/blocks.rt:126:17
pub returns-then-facing-group-clause-some : goal.returns-then-facing-group-clause-some
returns-then-facing-group-clause-some c =
    let mine = (c.in-Some-Some.ensures).cases.0 in
    let theirs = (c.in-Some-Some.ensures').cases.0 in
    let copied = (c.in_ok-try_copy-in-Some-Some-2.ensures) in
    let law = second_less blocks c.in-Some-Some.block.now c.in-Some-Some.other.now c.in-Some-Some.later.now c.in-Some-Some.later_others.now (grind (arith, c.if-facing-group.true)) (subst AreBlocks mine c.requires.first) (subst AreBlocks theirs c.requires.second) in
    rw (mine, theirs, copied) law

-- src/blocks.rt:94:1
pub returns-in_ok-try_copy-in-None-Some-clause-some : goal.returns-in_ok-try_copy-in-None-Some-clause-some
returns-in_ok-try_copy-in-None-Some-clause-some c =
    let theirs = (c.in-None-Some.ensures').cases.0 in
    let copied = (c.in_ok-try_copy-in-None-Some.ensures) in
    let law = second_alone blocks c.in-None-Some.block.now c.args.first.now.now c.in-None-Some.later.now (c.in-None-Some.ensures).cases (subst AreBlocks theirs c.requires.second) in
    rw (theirs, copied) law

-- src/blocks.rt:94:1
pub returns-in_ok-try_copy-in-Some-None-clause-some : goal.returns-in_ok-try_copy-in-Some-None-clause-some
returns-in_ok-try_copy-in-Some-None-clause-some c =
    let mine = (c.in-Some-None.ensures).cases.0 in
    let copied = (c.in_ok-try_copy-in-Some-None.ensures) in
    let law = first_alone blocks c.in-Some-None.block.now c.in-Some-None.later.now c.args.second.now.now (c.in-Some-None.ensures').cases (subst AreBlocks mine c.requires.first) in
    rw (mine, copied) law

-- src/blocks.rt:94:1
pub returns-in_ok-join-in-Some-Some-clause-some : goal.returns-in_ok-join-in-Some-Some-clause-some
returns-in_ok-join-in-Some-Some-clause-some c =
    let mine = (c.in-Some-Some.ensures).cases.0 in
    let theirs = (c.in-Some-Some.ensures').cases.0 in
    let joined = c.in_ok-join-in-Some-Some.ensures in
    let same : group_in c.in-Some-Some.block.now ≡ group_in c.in-Some-Some.other.now = grind (arith, c.if-group-facing.false, c.if-facing-group.false) in
    let first = subst AreBlocks mine c.requires.first in
    let second = subst AreBlocks theirs c.requires.second in
    let law = joined_front blocks c.in-Some-Some.block.now c.in-Some-Some.other.now c.in_ok-join-in-Some-Some.field-0 c.in-Some-Some.later.now c.in-Some-Some.later_others.now same joined.group joined.counters first second (in_place c.in-Some-Some.block.now c.in_ok-join-in-Some-Some.field-0 c.in-Some-Some.later.now joined.block joined.group first) (in_place c.in-Some-Some.other.now c.in_ok-join-in-Some-Some.field-0 c.in-Some-Some.later_others.now joined.block (joined.group ∙ same) second) in
    rw (mine, theirs) law
