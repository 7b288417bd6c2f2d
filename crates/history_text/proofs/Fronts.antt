-- The front with which bytes begin.
use Rattle.std.proofs.Common.{◌≡◌, ℕ, List, ◌∷◌, ◌++◌, Ok, sym, ap, ◌∙◌, append_assoc}
use Rattle.std.proofs.lemmas.Grind.{flat_map-append}
use Rattle.texts.specs.Parts.{lines_of, line_text, text_of}
use Rattle.texts.specs.Left.{Left}
use Rattle.texts.proofs.Cuts.{some_line}
use Rattle.ring_table.specs.Spelling.{ring_lines, ring_text}
use Rattle.plan_text.specs.Spelling.{plan_lines}
use Rattle.plan_cert.specs.Spelling.{cert_lines}
use Rattle.plan_cert.specs.declared.front.Front.{Front}
use Rattle.plan_cert.specs.Front.{front_at}
use Rattle.plan_cert.proofs.FrontLaws.{front_lines, front-part}
use Rattle.history_text.specs.declared.front.FrontText.{FrontText}
use Rattle.history_text.specs.Front.{front_text, IsFront}
use Rattle.history_text.proofs.Splits.{split}

-- the lines of a front, joined, are its text
front-text : (x : Front) → text_of (front_lines x) ≡ front_text x
front-text x =
    flat_map-append line_text (ring_lines x.ring) (plan_lines x.ring x.plan ++ cert_lines x.ring x.cert)
    ∙ ap (λ (t : List ℕ). ring_text x.ring ++ t) (flat_map-append line_text (plan_lines x.ring x.plan) (cert_lines x.ring x.cert))

-- what was read is a front, and the rest of the bytes is after its text
pub front-is : (bytes : List ℕ) (s w : Left) (value : Front) (front : FrontText) → s ≡ record { line = 1; lines = lines_of bytes } → front_at s ≡ Ok (value, w)
    → front.ring ≡ value.ring → front.text.items ≡ front_text value → front.line ≡ w.line → (x : Front) × (rest : List ℕ) × IsFront bytes front x rest
front-is bytes s w value front start read same text line =
    let first = some_line bytes in
    let part = front-part.takes s w value (first.0, first.1, ap (λ (x : Left). x.lines) start ∙ first.2) read in
    let next = part.2 in
    let lines : lines_of bytes ≡ front_lines value ++ next.0 ∷ next.1 = sym (ap (λ (x : Left). x.lines) start) ∙ part.0 ∙ ap (λ (ls : List (List (List ℕ))). front_lines value ++ ls) next.2 in
    let behind = split (front_lines value) bytes next.0 next.1 lines in
    let left : w ≡ record { line = front.line; lines = lines_of behind.rest } = (λ i. record { line = sym line i; lines = (next.2 ∙ sym behind.lines_are) i }) in (
      value,
      behind.rest,
      record {
        valid = rw same part.1.0;
        ring_is = same;
        text_is = text;
        whole = behind.whole ∙ ap (λ (z : List ℕ). z ++ behind.rest) (front-text value ∙ sym text);
        read = ap front_at (sym start) ∙ read ∙ ap (λ (x : Left). Ok (value, x)) left;
      },
    )

-- the texts, written one after the other
pub texts-on : (a b c s t o1 o2 o3 : List ℕ) → o1 ≡ a → s ≡ b → o2 ≡ o1 ++ s → t ≡ c → o3 ≡ o2 ++ t → o3 ≡ a ++ (b ++ c)
texts-on a b c s t o1 o2 o3 e1 e2 e3 e4 e5 = rw (e5, e3, e1, e2, e4) (append_assoc a b c)
