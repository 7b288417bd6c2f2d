use Rattle.std.proofs.Common.{◌∙◌, ℕ, List, ◌++◌, ap, subst}
use Rattle.plan_goal.specs.Windows.{Keeps}
use Rattle.plan_goal.proofs.InWindows.{keeps-all, keeps-found}
use Rattle.plan_goal.proofs.windows.Asked.add.Goals as goal

pub returns-in_ok-extend_from_slice-in-All : goal.returns-in_ok-extend_from_slice-in-All
returns-in_ok-extend_from_slice-in-All c = λ only texts h.
    keeps-all only texts c.in-All.all c.extend_from_slice.new.self c.args.text.items
    (c.in_ok-extend_from_slice-in-All.ensures.items ∙ ap (λ (xs : List ℕ). c.in-All.all.items ++ xs) c.as_slice.ensures.value) (subst (Keeps only texts) c.in-All.is h)

pub returns-in-After : goal.returns-in-After
returns-in-After c = λ only texts h. c.pass.ensures only texts (subst (Keeps only texts) c.in-After.is h)

pub returns-in-Found : goal.returns-in-Found
returns-in-Found c = λ only texts h. keeps-found only texts c.args.text.items c.in-Found.found (subst (Keeps only texts) c.in-Found.is h)
