use Rattle.std.proofs.Common.{◌≡◌, ℕ, false, List, [], ◌∷◌, codes, Ok, Err, ap, sym, ◌∙◌, refl}
use Rattle.std.proofs.lemmas.Result.{err_from_is_err_and}
use Rattle.ring_names.specs.declared.refusal.Refusal.{Refusal}
use Rattle.texts.specs.Left.{Left, begins_with, first_line, next_number}
use Rattle.change_text.specs.declared.layout.Entry.{Entry}
use Rattle.change_text.specs.LayoutReading.{with_line, entries_from}
use Rattle.change_text.proofs.layout_reading.read_entries.Goals as goal

-- the fault of a line is that of the lines from it on
line-fails : (seen : List Entry) (k : ℕ) (lines : List (List (List ℕ))) (x : List (List ℕ) × Left) (e : Refusal)
    → begins_with (codes "end") lines ≡ false → first_line k lines ≡ Ok x → with_line seen k x.0 ≡ Err e → entries_from seen k lines ≡ Err e
line-fails seen k [] x e begins first fails = absurd cc
line-fails seen k (line ∷ []) x e begins first fails = absurd cc
line-fails seen k (line ∷ next ∷ more) x e begins first fails =
    let pair : (line, record { line = next_number k; lines = next ∷ more }) ≡ x = cc in
    let here : with_line seen k line ≡ Err e = ap (λ (y : List (List ℕ) × Left). with_line seen k y.0) pair ∙ fails in
    rw (begins, here) refl

pub returns-in_err-read_line : goal.returns-in_err-read_line
returns-in_err-read_line c =
    let p = err_from_is_err_and c.from_residual-in_err-read_line.result c.from_residual-in_err-read_line.ensures.1 in
    let begins = sym c.begins.ensures ∙ c.lines-test.true in
    let found = c.in_ok-fields.ensures.found in
    rw (p.1, p.2) (λ other. sym c.lines.invariant ∙ line-fails c.lines.draft c.lines.lines.line c.lines.lines.lines (c.in_ok-fields.fields.fields, c.next.new.self) c.in_err-read_line.field-0.0 begins found.1 (rw found.0 at c.in_err-read_line.ensures other))
