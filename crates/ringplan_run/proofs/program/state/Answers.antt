use Rattle.ringplan_answers.specs.Answers.{texts_of}
use Rattle.ringplan_run.proofs.Runs.{prints_stated}
use Rattle.ringplan_run.proofs.program.state.Goals as goal

pub returns-in-Ok : goal.returns-in-Ok
returns-in-Ok g c =
    prints_stated _ _ (texts_of c.args.found) c.in-Ok.answer.output.items c.as_slice.result.now c.in-Ok.answer.status c.finish.result
    (c.lacks_memory.ensures c.if-lacks_memory.false) c.as_slice.ensures.value c.in-Ok.ensures.output c.in-Ok.ensures.status c.finish.ensures
