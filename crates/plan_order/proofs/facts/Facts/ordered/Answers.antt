use Rattle.std.proofs.Common.{◌∙◌, sym}
use Rattle.plan_order.proofs.Reaching.{ordered_before}
use Rattle.plan_order.proofs.facts.Facts.ordered.Goals as goal

pub returns-clause-before : goal.returns-clause-before
returns-clause-before c = λ h. ordered_before c.args.plan.now c.args.self.now c.args.a c.args.b c.requires (sym c.tells.ensures ∙ h)
