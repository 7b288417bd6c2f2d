use Rattle.std.proofs.Common.{map}
use Rattle.ringplan_command.specs.Command.{asked}
use Rattle.ringplan_command.proofs.Commands.{asked_alone, job_asked}
use Rattle.ringplan_command.proofs.command.parse.Goals as goal

pub returns-in-Ok-clause-job : goal.returns-in-Ok-clause-job
returns-in-Ok-clause-job g c = λ job e.
    let words = map g.S.AsStr.text c.args.words.now in
    job_asked job (asked words) c.in-Ok.line.request (asked_alone job words e) c.in-Ok.ensures.kinds
