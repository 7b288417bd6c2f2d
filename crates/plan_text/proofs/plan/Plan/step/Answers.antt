use Rattle.std.proofs.Common.{◌<◌, List, length, sym, ap, ◌∙◌, rules, arith, option_map}
use Rattle.std.specs.Prelude.{slice_get}
use Rattle.ring_names.proofs.InLists.{get_lent}
use Rattle.plan_text.proofs.Terms.{Planned}
use Rattle.plan_text.proofs.Pushed.{with-length, with-step}
use Rattle.plan_text.proofs.plan.Plan.step.Goals as goal

pub index-requires : goal.index-requires
index-requires c =
    let count = ap (λ (l : List Planned). length l) c.self.view_is in
    let less : c.args.n < length c.self.inside.steps.items = omega (arith, count, with-length c.self.inside.steps.items c.self.inside.rows c.self.invariant.rows, c.requires) in
    search (rules, less)

pub returns-clause-value : goal.returns-clause-value
returns-clause-value c =
    let steps = c.self.inside.steps.items in
    let count = ap (λ (l : List Planned). length l) c.self.view_is in
    let less : c.args.n < length steps = omega (arith, count, with-length steps c.self.inside.rows c.self.invariant.rows, c.requires) in
    ap (λ (l : List Planned). option_map (λ (x : Planned). x.step) (slice_get l c.args.n)) (sym c.self.view_is)
    ∙ with-step steps c.self.inside.rows c.args.n c.self.invariant.rows ∙ get_lent steps c.args.n c.index.result.now less c.index.ensures
