-- What a store was restored from is a run.
use Rattle.std.proofs.Common.{List, subst}
use Rattle.std.proofs.Math.Logic.{∥∥₁_map}
use Rattle.plan_runs.specs.declared.event.Entry.{Entry}
use Rattle.ring_core.specs.Replays.{Replays}
use Rattle.ring_exec.proofs.executor.Executor.restore.Goals as goal

pub returns-clause-run : goal.returns-clause-run
returns-clause-run g c =
    let a = c.in_ok-restored.restored in
    let told = subst (λ (xs : List Entry). Replays g.L.RunLedger.ring g.L.RunLedger.plan a.world xs) c.in_ok-restored.ensures.history a.replays in
    ∥∥₁_map told (λ x. (x.0, x.2))
