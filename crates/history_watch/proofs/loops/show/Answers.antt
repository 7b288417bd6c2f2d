use Rattle.std.proofs.Common.{◌∙◌, sym}
use Rattle.history_watch.proofs.Looped.{line_part}
use Rattle.history_watch.proofs.loops.show.Goals as goal

pub returns-in_err-write_all-clause-part : goal.returns-in_err-write_all-clause-part
returns-in_err-write_all-clause-part g c =
    line_part _ _ c.args.every c.args.count c.as_slice.result.now c.from_residual-in_err-write_all.result c.write_all.result c.in_err-write_all.field-0.0 c.from_residual-in_err-write_all.ensures.1 c.in_err-write_all.was
    (sym c.is_shown.ensures ∙ c.if-is_shown.true) (c.as_slice.ensures.value ∙ c.in_ok-line.ensures) c.write_all.ensures.part
