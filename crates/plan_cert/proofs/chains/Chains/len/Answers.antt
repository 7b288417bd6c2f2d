use Rattle.std.proofs.Common.{rules, ◌≡◌, List, length, sym, ap, ◌∙◌}
use Rattle.plan_cert.specs.declared.cert.Chain.{Chain}
use Rattle.plan_cert.proofs.ChainLaws.{chains-length}
use Rattle.plan_cert.proofs.chains.Chains.len.Goals as goal

pub returns : goal.returns
returns c =
    let nodes : c.len.result ≡ length c.self.inside.sides.items = search rules in
    nodes ∙ sym (chains-length c.self.inside.sides.items c.self.inside.rows c.self.invariant) ∙ ap (λ (cs : List Chain). length cs) c.self.view_is
