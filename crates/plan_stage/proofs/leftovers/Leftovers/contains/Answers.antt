use Rattle.std.proofs.Common.{◌≡◌, ◌∙◌, ap}
use Rattle.plan_stage.specs.Stage.{is_among}
use Rattle.plan_stage.proofs.NodeSets.{is_among-any}
use Rattle.plan_stage.proofs.leftovers.Leftovers.contains.Goals as goal

pub returns-in-None : goal.returns-in-None
returns-in-None c =
    let all : c.self.inside.more.keys ≡ c.args.self.now = rw c.in-None.is at c.self.view_is in
    c.contains.ensures ∙ is_among-any c.args.node c.self.inside.more.keys ∙ ap (is_among c.args.node) all
