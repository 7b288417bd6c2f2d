use Rattle.std.proofs.Common.{◌≡◌, ℕ, List, length, sym, ap, ◌∙◌, rules}
use Rattle.ring_names.proofs.RowLaws.{rows-length}
use Rattle.ring_names.proofs.rows.Rows.len.Goals as goal

pub returns : goal.returns
returns c =
    let xs = c.self.inside.numbers.items in
    let ends = c.self.inside.ends.items in
    let e : c.len.result ≡ length ends = search rules in
    e ∙ sym (rows-length xs 0 ends) ∙ ap (λ (l : List (List ℕ)). length l) c.self.view_is
