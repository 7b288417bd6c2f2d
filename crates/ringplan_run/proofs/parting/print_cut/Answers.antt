use Rattle.std.proofs.Common.{[], ◌∙◌, ap, inl, inr, not, refl}
use Rattle.ringplan_run.proofs.Deliveries.{prints_nothing}
use Rattle.ringplan_run.proofs.Runs.{no_place}
use Rattle.ringplan_run.proofs.parting.print_cut.Goals as goal

pub returns-in_default : goal.returns-in_default
returns-in_default g c = ([], 2, inl (no_place c.args.entry c.args.part.now (c.is_none.ensures ∙ ap not c.if-is_none.false) c.in_default.is), prints_nothing (g.W.Write.contents c.args.output.now) 2)

pub returns-in-Err : goal.returns-in-Err
returns-in-Err g c = ([], 3, inr (refl, refl), prints_nothing (g.W.Write.contents c.args.output.now) 3)
