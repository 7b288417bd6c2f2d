use Rattle.std.proofs.Common.{ℕ, List, [], refl, subst}
use Rattle.ringplan_answers.specs.Io.{Prints}
use Rattle.ringplan_run.specs.Run.{failed}
use Rattle.ringplan_run.proofs.Deliveries.{prints_nothing, told_bytes}
use Rattle.ringplan_run.proofs.program.print_report.Goals as goal

pub returns-in-Ok : goal.returns-in-Ok
returns-in-Ok g c = λ asked same.
    let found = c.in-Ok.ensures asked same in
    let report = c.in-Ok.report in
    let printed = subst (λ (xs : List ℕ). Prints (g.W.Write.contents c.args.output.now) (g.W.Write.contents c.finish.new.output) xs report.status c.finish.result) c.as_slice-in-Ok.ensures.value c.finish.ensures in
    (found.0, found.1, (report.output.items, report.status, found.2, printed))

pub returns-in-Err : goal.returns-in-Err
returns-in-Err g c = λ asked same.
    let read = told_bytes (g.R.Read.remaining c.args.input.now) in
    (read.0, read.1, ([], 3, failed refl refl, prints_nothing _ 3))
