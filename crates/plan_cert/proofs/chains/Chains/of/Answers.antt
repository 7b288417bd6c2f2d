use Rattle.std.proofs.Common.{◌≡◌, ◌<◌, List, length, refl, sym, ap, ◌∙◌, arith}
use Rattle.std.specs.Prelude.{slice_get, option_map}
use Rattle.std.proofs.lemmas.Option.{slice_get_read}
use Rattle.plan_cert.specs.declared.cert.Chain.{Chain}
use Rattle.plan_cert.specs.Chains.{side_of}
use Rattle.plan_cert.proofs.ChainLaws.{chains-length, side-at}
use Rattle.plan_cert.proofs.chains.Chains.of.Goals as goal

pub index-requires : goal.index-requires
index-requires c =
    let same : length c.args.self.now ≡ length c.self.inside.sides.items = sym (ap (λ (cs : List Chain). length cs) c.self.view_is) ∙ chains-length c.self.inside.sides.items c.self.inside.rows c.self.invariant in
    omega arith

pub returns : goal.returns
returns c =
    let same : length c.args.self.now ≡ length c.self.inside.sides.items = sym (ap (λ (cs : List Chain). length cs) c.self.view_is) ∙ chains-length c.self.inside.sides.items c.self.inside.rows c.self.invariant in
    let within : c.args.place < length c.self.inside.sides.items = omega arith in
    ap (λ (cs : List Chain). option_map side_of (slice_get cs c.args.place)) (sym c.self.view_is) ∙ side-at c.self.inside.sides.items c.self.inside.rows c.args.place c.self.invariant ∙ slice_get_read c.self.inside.sides.items (length c.self.inside.sides.items) c.args.place c.index.result.now refl within c.index.ensures
