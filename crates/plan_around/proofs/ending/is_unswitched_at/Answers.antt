use Rattle.std.proofs.Common.{◌≡◌, ◌∙◌, ℕ, List, Some, false, subst, sym, arith}
use Rattle.std.specs.Prelude.{slice_get}
use Rattle.std.proofs.lemmas.Option.{get_or_from_slice_get, slice_get_within}
use Rattle.plan_text.specs.declared.step.Step.TheVariants.{Switch}
use Rattle.plan_stage.specs.Each.{step_at}
use Rattle.plan_around.proofs.ending.is_unswitched_at.Goals as goal

pub returns-in-Some : goal.returns-in-Some
returns-in-Some c t w m k e f =
    let n = c.in-Some.number.now in
    let there = subst (λ (xs : List ℕ). slice_get xs c.args.place ≡ Some k) (sym c.slot_steps.ensures.value) e in
    let same : n ≡ k = c.in-Some.ensures.lookup.1 ∙ get_or_from_slice_get c.slot_steps.result.now c.args.place k n there in
    subst (λ (j : ℕ). w.done j ≡ false) same
    (c.is_unswitched_step.ensures t w m c.args.slot (subst (λ (j : ℕ). step_at c.args.plan.now j ≡ Some (Switch c.args.slot)) (sym same) f))

pub returns-in-None : goal.returns-in-None
returns-in-None c t w m k e f =
    let there = subst (λ (xs : List ℕ). slice_get xs c.args.place ≡ Some k) (sym c.slot_steps.ensures.value) e in
    absurd (let l = slice_get_within c.slot_steps.result.now c.args.place k there in let b = c.in-None.ensures.lookup.3 in omega arith)
