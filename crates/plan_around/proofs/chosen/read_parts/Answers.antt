use Rattle.std.proofs.Common.{refl}
use Rattle.texts.proofs.PartLaws.{handed-on}
use Rattle.plan_around.specs.Chosen.{halted_at, halted_of}
use Rattle.plan_around.proofs.chosen.read_parts.Goals as goal

pub returns-in_err-chosen-clause-read : goal.returns-in_err-chosen-clause-read
unfolding halted_at
returns-in_err-chosen-clause-read c =
    handed-on c.from_residual-in_err-chosen.result c.in_err-chosen.field-0.0 halted_of c.read_chosen.new.lines (halted_at c.args.lines.now) c.from_residual-in_err-chosen.ensures.1
    (λ other. rw (c.in_ok-replay.ensures.read, c.in_err-chosen.ensures.read other) refl)
