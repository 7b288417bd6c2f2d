use Rattle.std.proofs.Common.{List, sym, ap, ◌∙◌}
use Rattle.std.specs.List.{list_all}
use Rattle.plan_text.proofs.Terms.{Step, Planned}
use Rattle.plan_text.proofs.Pushed.{with-all}
use Rattle.plan_text.specs.Valid.{step_suits}
use Rattle.plan_text.proofs.plan.Plan.all_suit.Goals as goal

pub returns : goal.returns
returns c =
    let test = step_suits c.args.ring.now in
    c.all_suit.ensures
    ∙ ap (λ (l : List Step). list_all test l) c.as_slice.ensures.value
    ∙ sym (with-all test c.self.inside.steps.items c.self.inside.rows c.self.invariant.rows)
    ∙ ap (λ (l : List Planned). list_all (λ (x : Planned). test x.step) l) c.self.view_is
