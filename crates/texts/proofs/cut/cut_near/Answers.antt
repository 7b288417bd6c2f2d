use Rattle.std.proofs.Common.{◌<◌, eqb, length, get_or, eq-eqb, arith}
use Rattle.texts.proofs.Cuts.{cut_at, none_at}
use Rattle.texts.proofs.cut.cut_near.Goals as goal

pub returns-then-bytes-at : goal.returns-then-bytes-at
returns-then-bytes-at c =
    let within : c.loop-at.at < length c.args.bytes.now = omega arith in
    cut_at (λ b. eqb b c.args.separator) c.args.bytes.now c.loop-at.at within (λ k h. c.loop-at.invariant k h) (eq-eqb (get_or c.args.bytes.now c.loop-at.at 0) c.args.separator c.if-bytes-at.true)

pub returns : goal.returns
returns c = none_at (λ b. eqb b c.args.separator) c.args.bytes.now (λ k h. c.loop-at.invariant k (omega arith))
