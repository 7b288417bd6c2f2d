use Rattle.std.proofs.Common.{◌≡◌, List, length, sym, ap, ◌∙◌, arith}
use Rattle.std.specs.Prelude.{slice_get, option_map}
use Rattle.plan_cert.specs.declared.cert.Chain.{Chain}
use Rattle.plan_cert.proofs.ChainLaws.{chains-length, steps-at}
use Rattle.plan_cert.proofs.chains.Chains.steps.Goals as goal

pub row-requires : goal.row-requires
row-requires c =
    let same : length c.args.self.now ≡ length c.self.inside.sides.items = sym (ap (λ (cs : List Chain). length cs) c.self.view_is) ∙ chains-length c.self.inside.sides.items c.self.inside.rows c.self.invariant in
    omega arith

pub returns : goal.returns
returns c = ap (λ (cs : List Chain). option_map (λ (x : Chain). x.steps) (slice_get cs c.args.place)) (sym c.self.view_is) ∙ steps-at c.self.inside.sides.items c.self.inside.rows c.args.place c.self.invariant ∙ c.row.ensures
