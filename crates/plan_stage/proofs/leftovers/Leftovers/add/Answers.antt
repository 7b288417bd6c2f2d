use Rattle.std.proofs.Common.{◌≡◌, ◌∙◌, ap}
use Rattle.plan_stage.specs.Stage.{with_node}
use Rattle.plan_stage.proofs.NodeSets.{with_node-insert}
use Rattle.plan_stage.proofs.leftovers.Leftovers.add.Goals as goal

pub returns-in_ok-insert-in-None-2-clause-ok : goal.returns-in_ok-insert-in-None-2-clause-ok
returns-in_ok-insert-in-None-2-clause-ok c =
    let all : c.self.inside.more.keys ≡ c.args.self.now = rw c.in-None.is at c.self.view_is in
    rw c.in-None.is (c.in_ok-insert-in-None-2.ensures.keys ∙ with_node-insert c.args.node c.self.inside.more.keys ∙ ap (with_node c.args.node) all)
