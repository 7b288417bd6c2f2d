use Rattle.std.proofs.Common.{◌≡◌, ℕ, ◌+◌, ◌*◌, ◌<◌, length, take, refl, sym, ◌∙◌, subst, arith}
use Rattle.std.proofs.Math.Seq.{take-length}
use Rattle.std.proofs.lemmas.List.{length-set, take_more, take_more_set}
use Rattle.script_text.specs.Digits.{bytes_of}
use Rattle.script_text.proofs.DigitLaws.{digit-at, bytes-half, byte-at}
use Rattle.script_text.proofs.words.bytes_of.Goals as goal

pub digit_value-requires : goal.digit_value-requires
digit_value-requires c = digit-at c.args.digits.now (2 * c.loop-place.place) c.requires (omega arith)

pub digit_value-requires-in-loop-place : goal.digit_value-requires-in-loop-place
digit_value-requires-in-loop-place c = digit-at c.args.digits.now (2 * c.loop-place.place + 1) c.requires (omega arith)

pub loop-place-preserved : goal.loop-place-preserved
loop-place-preserved c =
    let digits = c.args.digits.now in
    let place = c.loop-place.place in
    let half = bytes-half digits in
    let within : place < length c.loop-place.out.items = omega (arith, c.loop-place.invariant.room) in
    let below : place < length (bytes_of digits) = omega (arith, half) in
    let byte = byte-at digits place (omega arith) in record {
      room = length-set c.loop-place.out.items place _ ∙ c.loop-place.invariant.room;
      bytes = rw (
        take_more_set c.loop-place.out.items place (16 * c.digit_value.result + c.digit_value-in-loop-place.result) within,
        take_more (bytes_of digits) place 0 below,
        c.loop-place.invariant.bytes,
        byte,
        c.digit_value.ensures.value,
        c.digit_value-in-loop-place.ensures.value,
      ) refl;
    }

pub returns-clause-ok : goal.returns-clause-ok
returns-clause-ok c =
    let out = c.loop-place.out.items in
    let bytes = bytes_of c.args.digits.now in
    let half = bytes-half c.args.digits.now in
    let written : length out ≡ c.loop-place.place = omega (arith, c.loop-place.invariant.room) in
    let spelled : length bytes ≡ c.loop-place.place = omega (arith, half) in
    sym (subst (λ (n : ℕ). take n out ≡ out) written (take-length out)) ∙ c.loop-place.invariant.bytes ∙ subst (λ (n : ℕ). take n bytes ≡ bytes) spelled (take-length bytes)
