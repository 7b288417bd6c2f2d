use Rattle.texts.proofs.Less.{less-first, less-second}
use Rattle.texts.proofs.compare.is_less_digits.Goals as goal

pub returns-then-first-i : goal.returns-then-first-i
returns-then-first-i c = less-first c.args.first.now c.args.second.now c.loop-i.i c.requires c.loop-i.invariant.same c.loop-i-test.true c.if-first-i.true

pub returns-then-second-i : goal.returns-then-second-i
returns-then-second-i c = less-second c.args.first.now c.args.second.now c.loop-i.i c.requires c.loop-i.invariant.same c.loop-i-test.true c.if-second-i.true
