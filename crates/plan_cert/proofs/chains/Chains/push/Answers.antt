use Rattle.std.proofs.Common.{◌≡◌, ℕ, List, [], ◌∷◌, ◌++◌, ap, ◌∙◌}
use Rattle.ring_table.specs.declared.allowance.NodeSide.{NodeSide}
use Rattle.plan_cert.specs.declared.cert.Chain.{Chain}
use Rattle.plan_cert.specs.Chains.{chain_of, chains_in}
use Rattle.plan_cert.proofs.ChainLaws.{chains-more}
use Rattle.plan_cert.proofs.chains.Chains.push.Goals as goal

pub returns-clause-ok : goal.returns-clause-ok
returns-clause-ok c =
    let sides : List NodeSide = c.self.inside.sides.items in
    let rows : List (List ℕ) = c.self.inside.rows in
    let more : c.push_reserved.new.self.items ≡ sides ++ c.args.of ∷ [] = c.push_reserved.ensures.items ∙ ap (λ (l : List NodeSide). l ++ c.args.of ∷ []) c.reserve.ensures.items in
    ap (λ (l : List NodeSide). chains_in l c.push.new.self) more ∙ ap (λ (l : List (List ℕ)). chains_in (sides ++ c.args.of ∷ []) l) c.in_ok-push.ensures.ok
    ∙ chains-more sides rows c.args.of c.args.steps.now c.self.invariant ∙ ap (λ (cs : List Chain). cs ++ chain_of c.args.of c.args.steps.now ∷ []) c.self.view_is
