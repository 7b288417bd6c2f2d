use Rattle.std.proofs.Common.{false}
use Rattle.history_laws.specs.Slots.{is_in}
use Rattle.history_laws.proofs.OneByOne.{alike, ends, goes_on}
use Rattle.history_laws.proofs.past.are_told.Goals as goal

pub entries-init : goal.entries-init
entries-init c = alike c.args.old.now c.args.numbers.now (is_in c.args.taken.now) (λ s. false) c.args.earlier.now c.args.told.now.entries.now c.requires

pub entries-preserved : goal.entries-preserved
entries-preserved c = λ t. c.entries.invariant
    (goes_on c.args.old.now c.args.numbers.now (is_in c.entries.taken) (is_in c.take_back.new.taken) c.entries.rest.now c.in-Some.later.now c.entries.left.now
    c.in-Some-cut.front.now c.in-Some-cut.behind.now c.in-Some.first.now (c.in-Some.ensures).cases.0 c.in-Some-cut.ensures
    (c.in_ok-is_told.ensures c.if-not-branch.false) c.in_ok-take_back.ensures t)

pub returns : goal.returns
returns c = λ t. c.entries.invariant
    (ends c.args.old.now c.args.numbers.now (is_in c.entries.taken) c.entries.rest.now c.entries.left.now c.is_empty.result (c.in_default.ensures).cases c.is_empty.ensures t)
