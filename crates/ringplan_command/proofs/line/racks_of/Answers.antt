use Rattle.std.proofs.Common.{◌∙◌, List, MatchOption, Option, ℕ, option_map, ap, subst, sym}
use Rattle.change_text.specs.declared.options.RackRule.{RackRule}
use Rattle.ringplan_command.specs.Makings.{MeansRacks}
use Rattle.ringplan_command.proofs.line.racks_of.Goals as goal

pub returns-in-Some : goal.returns-in-Some
returns-in-Some c =
    let named = ap (option_map (λ text. text.now)) (sym c.in-Some.is) ∙ c.text_of.ensures in
    subst (λ (o : Option (List ℕ)). MatchOption c.racks_named.result ((rule : RackRule) → MeansRacks o rule → ⊥) (MeansRacks o)) named c.racks_named.ensures
