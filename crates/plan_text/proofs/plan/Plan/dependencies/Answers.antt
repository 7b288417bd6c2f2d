use Rattle.std.proofs.Common.{ap, sym, ◌∙◌, arith}
use Rattle.plan_text.proofs.Terms.{dependencies}
use Rattle.plan_text.proofs.Pushed.{with-total}
use Rattle.plan_text.proofs.plan.Plan.dependencies.Goals as goal

pub overflow_cast-result : goal.overflow_cast-result
overflow_cast-result c = omega (arith, c.total.ensures, with-total c.self.inside.steps.items c.self.inside.rows c.self.invariant.rows, c.self.invariant.plan.dependencies)

pub returns-clause-value : goal.returns-clause-value
returns-clause-value c =
    c.total.ensures ∙ sym (with-total c.self.inside.steps.items c.self.inside.rows c.self.invariant.rows) ∙ ap dependencies c.self.view_is
