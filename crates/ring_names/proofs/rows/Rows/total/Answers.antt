use Rattle.std.proofs.Common.{◌≡◌, ℕ, List, length, ap, ◌∙◌, arith, rules}
use Rattle.std.specs.Prelude.{sum_by}
use Rattle.ring_names.proofs.RowLaws.{rows-total}
use Rattle.ring_names.proofs.rows.Rows.total.Goals as goal

pub returns : goal.returns
returns c =
    let xs = c.self.inside.numbers.items in
    let e : c.len.result ≡ length xs = search rules in
    let all = rows-total xs 0 c.self.inside.ends.items (length xs) c.self.invariant (omega arith) in
    omega (arith, e, all) ∙ ap (λ (l : List (List ℕ)). sum_by (λ (row : List ℕ). length row) l) c.self.view_is
