use Rattle.std.proofs.Common.{[]}
use Rattle.ringplan_run.proofs.Deliveries.{prints_nothing, reports_none, told_bytes}
use Rattle.ringplan_run.proofs.program.run_making.Goals as goal

pub returns-in-Ok : goal.returns-in-Ok
returns-in-Ok g c = c.print_report.ensures c.args.options c.in-Ok.ensures.same

pub returns-in-Err : goal.returns-in-Err
returns-in-Err g c =
    let read = told_bytes (g.R.Read.remaining c.args.input.now) in
    let status = c.in-Err.status in
    (read.0, read.1, ([], status, reports_none c.args.making c.args.options read.0 status c.in-Err.ensures.status, prints_nothing _ status))
