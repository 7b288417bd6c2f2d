use Rattle.ringplan_run.proofs.Runs.{prints_no_memory}
use Rattle.ringplan_run.proofs.program.end_without_memory.Goals as goal

pub returns : goal.returns
returns g c = prints_no_memory _ _ _ c.finish.ensures
