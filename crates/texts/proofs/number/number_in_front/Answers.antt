use Rattle.std.proofs.Common.{◌≡◌, ℕ, ◌<◌, eqb, true, false, [], length, get_or, take, sym, ◌∙◌, ap, eq-eqb, below_more, arith}
use Rattle.std.proofs.lemmas.Bool.{ne_eqb}
use Rattle.std.specs.Str.{all_ascii_digits}
use Rattle.texts.proofs.Cuts.{cut_at, none_at}
use Rattle.texts.proofs.Firsts.{take_whole}
use Rattle.texts.proofs.InFront.{none_in_front, odd_in_front, digit_is_no_space}
use Rattle.texts.proofs.NumberLaws.{digits-step}
use Rattle.texts.proofs.Shorts.{short-step}
use Rattle.texts.proofs.number.number_in_front.Goals as goal

pub returns-then-byte-ne32-clause-none : goal.returns-then-byte-ne32-clause-none
returns-then-byte-ne32-clause-none c =
    odd_in_front c.args.bytes.now c.loop-at.at (omega arith) (λ k h. c.loop-at.invariant.none k h) (ne_eqb (get_or c.args.bytes.now c.loop-at.at 0) 32 c.if-byte-ne32.true) (sym c.is_ascii_digit.ensures.value ∙ c.if-not-is_ascii_digit.true)

pub returns-then-not-is_ascii_digit-clause-field : goal.returns-then-not-is_ascii_digit-clause-field
returns-then-not-is_ascii_digit-clause-field c =
    cut_at (λ b. eqb b 32) c.args.bytes.now c.loop-at.at (omega arith) (λ k h. c.loop-at.invariant.none k h) (eq-eqb (get_or c.args.bytes.now c.loop-at.at 0) 32 c.if-byte-ne32.false)

pub loop-at-preserved : goal.loop-at-preserved
loop-at-preserved c =
    let within : c.loop-at.at < length c.args.bytes.now = omega arith in
    let digit = sym c.is_ascii_digit.ensures.value ∙ c.if-not-is_ascii_digit.false in
    record {
      digits = digits-step c.args.bytes.now c.loop-at.at within c.loop-at.invariant.digits digit;
      value = λ l. short-step c.args.bytes.now c.loop-at.at c.loop-at.value within l c.loop-at.invariant.digits digit (c.loop-at.invariant.value (omega arith));
      none = below_more (λ (k : ℕ). eqb (get_or c.args.bytes.now k 0) 32 ≡ false) c.loop-at.at (λ k h. c.loop-at.invariant.none k h) (digit_is_no_space (get_or c.args.bytes.now c.loop-at.at 0) digit);
    }

pub returns-clause-field : goal.returns-clause-field
returns-clause-field c = none_at (λ b. eqb b 32) c.args.bytes.now (λ k h. c.loop-at.invariant.none k (omega arith))

pub returns-then-not-are_number-2-clause-none : goal.returns-then-not-are_number-2-clause-none
returns-then-not-are_number-2-clause-none c =
    let bytes = c.args.bytes.now in
    let end : c.loop-at.at ≡ length bytes = omega arith in
    let digits : all_ascii_digits bytes ≡ true = sym (ap all_ascii_digits (ap (λ (n : ℕ). take n bytes) end ∙ take_whole bytes)) ∙ c.loop-at.invariant.digits in
    none_in_front bytes bytes [] (none_at (λ b. eqb b 32) bytes (λ k h. c.loop-at.invariant.none k (omega arith))) (sym (c.are_number-2.ensures digits) ∙ c.if-not-are_number-2.true)
