use Rattle.std.proofs.Common.{◌∙◌, ap}
use Rattle.ringplan_answers.specs.Verdict.{judged}
use Rattle.ringplan_answers.proofs.Verdicts.{verdict-bad, verdict-good}
use Rattle.history_watch.proofs.Started.{starts_by}
use Rattle.history_watch.proofs.bundle.start_judge.Goals as goal

pub returns-in-Ok-check : goal.returns-in-Ok-check
returns-in-Ok-check c =
    starts_by c.args.bytes.now c.start.result c.in-Ok.bundle c.in-Ok.ensures.read c.in-Ok-check.ensures.accepted c.in-Ok-check.approved c.in-Ok-check.ensures.same.0 c.in-Ok-check.ensures.same.1 c.start.ensures.ok c.start.ensures.memory

pub returns-in-Ok : goal.returns-in-Ok
returns-in-Ok c = λ not. verdict-good c.args.bytes.now c.in-Ok.bundle c.in-Ok.ensures.read ∙ ap judged (c.in-Err-check.ensures.refused not)

pub returns : goal.returns
returns c = λ not. verdict-bad c.args.bytes.now c.in-Err.refusal (c.in-Err.ensures.read not)
