use Rattle.std.proofs.Common.{◌≡◌, ℕ, List, Some, refl, subst, sym}
use Rattle.std.specs.Prelude.{slice_get}
use Rattle.std.proofs.lemmas.Bool.{ltb-true}
use Rattle.std.proofs.lemmas.Option.{slice_get_read}
use Rattle.plan_around.proofs.ending.is_given_at.Goals as goal

pub returns-then-is_given_step : goal.returns-then-is_given_step
returns-then-is_given_step c = λ t w m.
    let n = c.in-Some.number.now in
    let at = c.in-Some.ensures.lookup in
    let here = slice_get_read c.slot_steps.result.now _ c.args.place n refl (ltb-true _ _ (sym at.0)) at.1 in (
      c.args.place,
      n,
      subst (λ (xs : List ℕ). slice_get xs c.args.place ≡ Some n) c.slot_steps.ensures.value here,
      c.is_given_step.ensures c.if-is_given_step.true w m,
      c.are_to_come.ensures t w m,
    )
