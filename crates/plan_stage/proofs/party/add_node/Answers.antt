use Rattle.std.proofs.Common.{◌∙◌}
use Rattle.plan_stage.proofs.NodeSets.{with_node-insert}
use Rattle.plan_stage.proofs.party.add_node.Goals as goal

pub returns-clause-ok : goal.returns-clause-ok
returns-clause-ok c = c.in_ok-insert.ensures.keys ∙ with_node-insert c.args.node c.args.party.now.keys
