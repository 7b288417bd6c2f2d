use Rattle.std.proofs.Common.{◌≡◌, ℕ, ◌+◌, List, [], ◌∷◌, ◌++◌, length, refl, sym, ap, ◌∙◌, subst, rules, arith}
use Rattle.std.proofs.lemmas.List.{length-append}
use Rattle.ring_names.specs.Rows.{rows_from, AreEnds}
use Rattle.ring_names.proofs.RowLaws.{one-row-more, ends-more}
use Rattle.ring_names.proofs.rows.Rows.push.Goals as goal

pub invariant_of-self-2 : goal.invariant_of-self-2
invariant_of-self-2 c =
    let xs = c.self.inside.numbers.items in
    let ends = c.self.inside.ends.items in
    let new : List ℕ = c.extend_from_slice.new.self.items in
    let more : length new ≡ length xs + length c.args.row.now = ap (λ (l : List ℕ). length l) c.in_ok-extend_from_slice.ensures.items ∙ length-append xs c.args.row.now in
    let size : c.len.result ≡ length new = search rules in
    let items : c.push_reserved.new.self.items ≡ ends ++ length new ∷ [] = c.push_reserved.ensures.items ∙ rw (c.reserve.ensures.items, size) refl in
    subst (λ (l : List ℕ). AreEnds 0 l (length new)) (sym items) (ends-more 0 ends (length xs) (length new) c.self.invariant (omega arith))

pub returns-clause-ok : goal.returns-clause-ok
returns-clause-ok c =
    let xs = c.self.inside.numbers.items in
    let ends = c.self.inside.ends.items in
    let row = c.args.row.now in
    let new : List ℕ = c.extend_from_slice.new.self.items in
    let size : c.len.result ≡ length new = search rules in
    let items : c.push_reserved.new.self.items ≡ ends ++ length new ∷ [] = c.push_reserved.ensures.items ∙ rw (c.reserve.ensures.items, size) refl in
    ap (λ (l : List ℕ). rows_from new 0 l) items ∙ ap (λ (l : List ℕ). rows_from l 0 (ends ++ length l ∷ [])) c.in_ok-extend_from_slice.ensures.items
    ∙ one-row-more xs row 0 ends c.self.invariant ∙ ap (λ (l : List (List ℕ)). l ++ row ∷ []) c.self.view_is
