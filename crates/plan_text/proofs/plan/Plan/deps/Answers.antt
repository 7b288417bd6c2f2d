use Rattle.std.proofs.Common.{List, length, ap, sym, ◌∙◌, arith, option_map}
use Rattle.std.specs.Prelude.{slice_get}
use Rattle.plan_text.proofs.Terms.{Planned}
use Rattle.plan_text.proofs.Pushed.{with-length, with-after}
use Rattle.plan_text.proofs.plan.Plan.deps.Goals as goal

pub row-requires : goal.row-requires
row-requires c =
    let count = ap (λ (l : List Planned). length l) c.self.view_is in
    omega (arith, count, with-length c.self.inside.steps.items c.self.inside.rows c.self.invariant.rows, c.self.invariant.rows, c.requires)

pub returns-clause-value : goal.returns-clause-value
returns-clause-value c =
    ap (λ (l : List Planned). option_map (λ (x : Planned). x.after) (slice_get l c.args.n)) (sym c.self.view_is)
    ∙ with-after c.self.inside.steps.items c.self.inside.rows c.args.n c.self.invariant.rows ∙ c.row.ensures
