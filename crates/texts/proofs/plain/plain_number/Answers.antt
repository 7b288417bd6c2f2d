use Rattle.std.proofs.Common.{◌<◌, length, sym, ◌∙◌, arith}
use Rattle.texts.proofs.NumberLaws.{digits-step}
use Rattle.texts.proofs.Shorts.{short-step}
use Rattle.texts.proofs.Plains.{front-small, number-front}
use Rattle.texts.proofs.plain.plain_number.Goals as goal

pub overflow_cast-result : goal.overflow_cast-result
overflow_cast-result c =
    let small = front-small c.args.text.now c.loop-at.at c.loop-at.value c.if-at-gt9.false c.loop-at.invariant.digits (c.loop-at.invariant.value c.if-at-gt9.false) in
    omega arith

pub returns-then-not-is_ascii_digit : goal.returns-then-not-is_ascii_digit
returns-then-not-is_ascii_digit c =
    let digits = c.loop-at.invariant.digits in
    number-front c.args.text.now c.loop-at.at c.loop-at.value c.if-at-gt9.false digits (c.loop-at.invariant.value c.if-at-gt9.false) (sym (c.are_number.ensures digits) ∙ c.if-not-are_number.false)

pub loop-at-preserved : goal.loop-at-preserved
loop-at-preserved c =
    let within : c.loop-at.at < length c.args.text.now = omega arith in
    let digit = sym c.is_ascii_digit.ensures.value ∙ c.if-not-is_ascii_digit.false in
    record {
      digits = digits-step c.args.text.now c.loop-at.at within c.loop-at.invariant.digits digit;
      value = λ l. short-step c.args.text.now c.loop-at.at c.loop-at.value within l c.loop-at.invariant.digits digit (c.loop-at.invariant.value (omega arith));
    }
