use Rattle.std.proofs.Common.{◌≡◌, ◌<◌, ◌||◌, eqb, eq-eqb, true, false, length, get_or, refl, sym, ◌∙◌, arith}
use Rattle.std.proofs.lemmas.Bool.{eqb-true, ne_eqb}
use Rattle.std.specs.Str.{bytes_eq}
use Rattle.texts.specs.Parts.{until}
use Rattle.texts.proofs.Untils.{until-stop}
use Rattle.texts.proofs.cut.stands_in_front.Goals as goal
use Rattle.texts.proofs.cut.stands_in_front.Goals.{then-byte-eq32-via-then-byte-eq32, then-byte-eq32-via-else-byte-eq32+then-byte-end, then-byte-eq32-via-else-byte-eq32+else-byte-end+then-bytes-at, then-byte-eq32-via-else-byte-eq32+else-byte-end+else-bytes-at+then-bytes-at-2}

pub returns-then-byte-eq32 : goal.returns-then-byte-eq32
returns-then-byte-eq32 c =
    let bytes = c.args.bytes.now in
    let word = c.args.word.now in
    let end = c.args.end in
    let at = c.loop-at.at in
    let within : at < length word = omega arith in
    let stop : (at < length bytes → eqb (get_or bytes at 0) (get_or word at 0) ≡ true → (eqb (get_or word at 0) 32 || eqb (get_or word at 0) end) ≡ true) → false ≡ bytes_eq (until (λ b. eqb b 32 || eqb b end) bytes) word = λ h. sym (c.loop-at.invariant ∙ until-stop (λ b. eqb b 32 || eqb b end) bytes word at within h) in
    elim c.then-byte-eq32.branch [
      | then-byte-eq32-via-then-byte-eq32 w ↦ stop (λ _ _. rw (eq-eqb (get_or word at 0) 32 w.if-byte-eq32.true) refl)
      | then-byte-eq32-via-else-byte-eq32+then-byte-end w ↦ stop (λ _ _. rw (ne_eqb (get_or word at 0) 32 w.if-byte-eq32.false, eq-eqb (get_or word at 0) end w.if-byte-end.true) refl)
      | then-byte-eq32-via-else-byte-eq32+else-byte-end+then-bytes-at w ↦ stop (λ h _. absurd (omega (arith, h, w.if-bytes-at.true)))
      | then-byte-eq32-via-else-byte-eq32+else-byte-end+else-bytes-at+then-bytes-at-2 w ↦ stop (λ _ e. absurd (w.if-bytes-at-2.true (eqb-true (get_or bytes at 0) (get_or word at 0) e)))
    ]
