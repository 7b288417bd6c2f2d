use Rattle.std.proofs.Common.{◌≡◌, List, length, ap, ◌∙◌, rules, arith, sym}
use Rattle.plan_text.proofs.Terms.{Planned}
use Rattle.plan_text.proofs.Pushed.{with-length}
use Rattle.plan_text.proofs.plan.Plan.len.Goals as goal

pub overflow_cast-result : goal.overflow_cast-result
overflow_cast-result c =
    let e : c.len.result ≡ length c.self.inside.steps.items = search rules in
    omega (arith, e, with-length c.self.inside.steps.items c.self.inside.rows c.self.invariant.rows, c.self.invariant.plan.steps)

pub returns-clause-value : goal.returns-clause-value
returns-clause-value c =
    let e : c.len.result ≡ length c.self.inside.steps.items = search rules in
    e ∙ sym (with-length c.self.inside.steps.items c.self.inside.rows c.self.invariant.rows) ∙ ap (λ (l : List Planned). length l) c.self.view_is
