use Rattle.std.proofs.Common.{◌≡◌, ℕ, List, [], ◌∷◌, ◌++◌, refl, sym, ap, ◌∙◌, subst, arith}
use Rattle.std.proofs.lemmas.List.{length-append}
use Rattle.plan_text.proofs.Terms.{Step, Planned, IsPlan}
use Rattle.plan_text.specs.Held.{HoldsSteps}
use Rattle.plan_text.specs.Kept.{planned_with}
use Rattle.plan_text.proofs.Pushed.{IsPlan-push, with-push}
use Rattle.plan_text.proofs.plan.Plan.push.Goals as goal

pub invariant_of-self-2 : goal.invariant_of-self-2
invariant_of-self-2 c =
    let x : Planned = record { step = c.args.step; after = c.args.after.now } in
    let old : List Planned = c.args.self.now in
    let ss : List Step = c.self.inside.steps.items in
    let rows : List (List ℕ) = c.self.inside.rows in
    let is = c.self.invariant in
    let steps : c.push_reserved.new.self.items ≡ ss ++ c.args.step ∷ [] = c.push_reserved.ensures.items ∙ ap (λ (l : List Step). l ++ c.args.step ∷ []) c.reserve.ensures.items in
    let new : planned_with c.push_reserved.new.self.items c.push.new.self ≡ old ++ x ∷ [] =
    rw (steps, c.in_ok-push.ensures.ok, ← c.self.view_is) (with-push ss rows c.args.step c.args.after.now is.rows) in
    record {
      plan = subst IsPlan (sym new) (IsPlan-push old x (subst IsPlan c.self.view_is is.plan) c.requires.planned c.requires.steps c.requires.dependencies);
      rows = rw (steps, c.in_ok-push.ensures.ok) (omega (arith, is.rows, length-append rows (c.args.after.now ∷ []), length-append ss (c.args.step ∷ [])));
      index = subst (HoldsSteps c.add.new.self) (sym new)
          (c.in_default.ensures.ok old (subst (HoldsSteps c.self.inside.index) c.self.view_is is.index) (sym c.len-number.ensures.value) x refl);
    }

pub returns-clause-ok : goal.returns-clause-ok
returns-clause-ok c =
    let ss : List Step = c.self.inside.steps.items in
    let steps : c.push_reserved.new.self.items ≡ ss ++ c.args.step ∷ [] = c.push_reserved.ensures.items ∙ ap (λ (l : List Step). l ++ c.args.step ∷ []) c.reserve.ensures.items in
    rw (steps, c.in_ok-push.ensures.ok, ← c.self.view_is) (with-push ss c.self.inside.rows c.args.step c.args.after.now c.self.invariant.rows)
