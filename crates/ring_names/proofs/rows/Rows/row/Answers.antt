use Rattle.std.proofs.Common.{ℕ, List, Some, refl, sym, ap, ◌∙◌}
use Rattle.std.specs.Prelude.{slice_get}
use Rattle.ring_names.proofs.RowLaws.{row-at, row-there}
use Rattle.ring_names.proofs.rows.Rows.row.Goals as goal

pub row_at-requires : goal.row_at-requires
row_at-requires c =
    let xs = c.self.inside.numbers.items in
    let there = row-there xs c.self.inside.ends.items c.args.self.now c.args.place c.self.view_is c.self.invariant c.requires in
    rw (c.as_slice.ensures.value, c.as_slice-2.ensures.value) (record { there = there.0; from = there.1; to = there.2 })

pub returns : goal.returns
returns c =
    let xs = c.self.inside.numbers.items in
    let ends = c.self.inside.ends.items in
    let there = row-there xs ends c.args.self.now c.args.place c.self.view_is c.self.invariant c.requires in
    ap (λ (rows : List (List ℕ)). slice_get rows c.args.place) (sym c.self.view_is) ∙ row-at xs 0 ends c.args.place there.0
    ∙ ap Some (rw (c.row_at.ensures, c.as_slice.ensures.value, c.as_slice-2.ensures.value) refl)
