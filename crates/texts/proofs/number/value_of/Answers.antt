use Rattle.std.proofs.Common.{◌∙◌}
use Rattle.texts.proofs.Shorts.{short-capped}
use Rattle.texts.proofs.number.value_of.Goals as goal

pub returns-then-digits-le9 : goal.returns-then-digits-le9
returns-then-digits-le9 c = c.requires.short c.if-digits-le9.true ∙ short-capped c.args.digits.now c.requires.digits c.if-digits-le9.true
