use Rattle.std.proofs.Common.{◌≡◌, ◌∙◌, ap}
use Rattle.plan_stage.specs.Stage.{without_node}
use Rattle.plan_stage.proofs.NodeSets.{without_node-remove}
use Rattle.plan_stage.proofs.leftovers.Leftovers.remove.Goals as goal

pub returns-in-None : goal.returns-in-None
returns-in-None c =
    let all : c.self.inside.more.keys ≡ c.args.self.now = rw c.in-None.is at c.self.view_is in
    rw c.in-None.is (c.remove.ensures.keys ∙ without_node-remove c.args.node c.self.inside.more.keys ∙ ap (without_node c.args.node) all)
