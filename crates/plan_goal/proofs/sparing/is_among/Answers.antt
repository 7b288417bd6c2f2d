use Rattle.std.proofs.Common.{◌∙◌}
use Rattle.plan_text.proofs.ChangeLaws.{among}
use Rattle.plan_goal.proofs.sparing.is_among.Goals as goal

pub returns : goal.returns
returns c = c.is_number_of.ensures ∙ among c.args.node.0 c.args.nodes.now
