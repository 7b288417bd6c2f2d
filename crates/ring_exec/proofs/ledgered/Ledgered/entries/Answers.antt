use Rattle.std.proofs.Common.{List, subst, sym}
use Rattle.plan_runs.specs.declared.event.Entry.{Entry}
use Rattle.ring_core.specs.Replays.{Replays}
use Rattle.ring_exec.proofs.ledgered.Ledgered.entries.Goals as goal

pub returns-clause-run : goal.returns-clause-run
returns-clause-run g c =
    let a = c.args.self.now in
    subst (λ (xs : List Entry). Replays g.L.RunLedger.ring g.L.RunLedger.plan a.world xs) (sym {A = List Entry} c.as_slice.ensures.value) a.replays
