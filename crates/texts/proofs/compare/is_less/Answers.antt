use Rattle.texts.proofs.Less.{less-shorter, less-longer}
use Rattle.texts.proofs.compare.is_less.Goals as goal

pub returns-then-first-second : goal.returns-then-first-second
returns-then-first-second c = less-shorter c.args.first.now c.args.second.now c.if-first-second.true

pub returns-then-second-first : goal.returns-then-second-first
returns-then-second-first c = less-longer c.args.first.now c.args.second.now c.if-second-first.true
