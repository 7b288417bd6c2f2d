use Rattle.history_watch.proofs.Looped.{on_inside}
use Rattle.history_watch.proofs.loops.watch_some.Goals as goal

pub returns-clause-err : goal.returns-clause-err
returns-clause-err g c = on_inside c.take-taken.result _ c.take-taken.ensures.err
