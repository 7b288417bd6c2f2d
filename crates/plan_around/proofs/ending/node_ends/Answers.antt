use Rattle.std.proofs.Common.{◌∙◌, inr, sym}
use Rattle.plan_around.specs.Ends.{holds}
use Rattle.plan_around.proofs.ending.node_ends.Goals as goal

pub returns : goal.returns
returns c = λ t w m. inr (holds (c.requires.holders c.args.node.0 (sym c.is_flagged.ensures ∙ t) w m))
