use Rattle.std.proofs.Common.{◌<◌, length, ◌∙◌, arith}
use Rattle.texts.proofs.NumberLaws.{value-step}
use Rattle.texts.proofs.number.capped_value.Goals as goal

pub loop-at-preserved : goal.loop-at-preserved
loop-at-preserved c =
    let within : c.loop-at.at < length c.args.digits.now = omega arith in
    rw c.saturating_sub.ensures at c.min-value.ensures ∙ value-step c.args.digits.now c.loop-at.at c.loop-at.value within c.loop-at.invariant
