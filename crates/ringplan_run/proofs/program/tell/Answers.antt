use Rattle.std.proofs.Common.{inr}
use Rattle.ringplan_answers.specs.Answers.{texts_of}
use Rattle.ringplan_run.proofs.Runs.{prints_answer}
use Rattle.ringplan_run.proofs.program.tell.Goals as goal

pub returns-in-Ok : goal.returns-in-Ok
returns-in-Ok g c =
    prints_answer _ _ (texts_of c.args.found) c.in-Ok.answer.output.items c.as_slice.result.now c.in-Ok.answer.status c.finish.result
    c.as_slice.ensures.value c.in-Ok.ensures.output c.in-Ok.ensures.status c.finish.ensures

pub returns-in-Err : goal.returns-in-Err
returns-in-Err g c = inr c.end_without_memory.ensures
