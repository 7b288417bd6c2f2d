use Rattle.std.proofs.Common.{List, sym, subst}
use Rattle.plan_runs.specs.declared.event.Entry.{Entry}
use Rattle.ring_core.specs.Replays.{Replays}
use Rattle.plan_around.proofs.Leading.{leads_first}
use Rattle.plan_around.proofs.led.Led.start.Goals as goal

pub returns : goal.returns
returns c =
    let approved = c.args.approved.now in
    let start = c.in_ok-store.ensures in
    record {
      ring = start.ring;
      plan = start.plan;
      replays = subst (λ (xs : List Entry). Replays approved.ring approved.plan c.in_ok-store.store xs) (sym c.new-entries.ensures.items) (leads_first approved.ring approved.plan c.in_ok-store.store start.opening);
    }
