use Rattle.std.proofs.Common.{◌∙◌, inl, inr, refl, Err}
use Rattle.std.specs.Fmt.{digits}
use Rattle.ring_names.specs.declared.refusal.Refusal.TheVariants.{OutOfMemory}
use Rattle.ringplan_c.proofs.Told.{filled}
use Rattle.ringplan_c.proofs.watching.refuse.Goals as goal

pub returns-in-Ok : goal.returns-in-Ok
returns-in-Ok c = (
  Err c.args.refusal,
  inl refl,
  filled (Err c.args.refusal) c.as_slice.result.now c.in-Ok.answer.status c.args.output.now c.fill.new.room c.fill.new.length c.fill.result (c.as_slice.ensures.value ∙ c.in-Ok.ensures.output) c.in-Ok.ensures.status c.fill.ensures,
)

pub returns-in-Err : goal.returns-in-Err
unfolding digits
returns-in-Err c = (Err OutOfMemory, inr refl, c.fill-in-Err.ensures)
