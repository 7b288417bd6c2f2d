use Rattle.std.proofs.Common.{sym, subst}
use Rattle.ringplan_c.specs.Line.{line_of}
use Rattle.ringplan_c.specs.Speaking.{Reports, for_others, reported}
use Rattle.ringplan_command.specs.Command.{Answers, asked}
use Rattle.ringplan_command.specs.Files.{IsJob, Names}
use Rattle.ringplan_reports.proofs.Kept.{weaker}
use Rattle.ringplan_c.proofs.speaking.report_line.Goals as goal

pub returns-in-Make : goal.returns-in-Make
returns-in-Make c =
    let line = c.in_ok-request in
    let asks = subst (Answers (asked (line_of c.args.command.now c.args.options.now))) c.in-Make.is line.ensures.asks in
    let named = line.ensures.files (subst IsJob (sym c.in-Make.is) tt) in
    weaker c.report_making.result c.report_making.ensures
    (λ r p. reported c.in-Make.making c.in-Make.known asks (subst (λ (fs : Names). Reports fs c.in-Make.making c.in-Make.known c.args.input.now r.output.items r.status) named p))

pub returns : goal.returns
returns c =
    let line = c.in_ok-request in
    let d = c.in_default in
    weaker c.turned_away-in_default.result c.turned_away-in_default.ensures (λ r p. for_others line.field-0.request (d.not-Make, d.not-Help, d.not-Mistaken, d.not-OutOfMemory) line.ensures.asks p)
