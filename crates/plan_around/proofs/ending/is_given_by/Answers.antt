use Rattle.std.proofs.Common.{◌∙◌, ap, sym}
use Rattle.ring_names.specs.declared.ids.Slot.{Slot}
use Rattle.plan_text.specs.declared.step.Step.TheVariants.{Copy}
use Rattle.plan_stage.proofs.Truth.{slot-is}
use Rattle.plan_around.proofs.ending.is_given_by.Goals as goal

pub returns-then-is_slot-clause-same : goal.returns-then-is_slot-clause-same
returns-then-is_slot-clause-same c = λ t. (
  c.in-Copy.field-1,
  c.in-Copy.is ∙ ap (λ (s : Slot). Copy s c.in-Copy.field-1) (slot-is c.in-Copy.copied c.args.slot (sym c.is_slot.ensures.value ∙ c.if-is_slot.true)),
)
