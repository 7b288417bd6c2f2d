use Rattle.std.proofs.Common.{rules, ◌∙◌, List, sym, subst}
use Rattle.ring_table.specs.Value.{RingValue}
use Rattle.plan_text.specs.declared.step.Planned.{Planned}
use Rattle.plan_runs.specs.declared.event.Entry.{Entry}
use Rattle.ring_core.specs.Replays.{Replays}
use Rattle.ring_exec.proofs.ledgered.Ledgered.restore.Goals as goal

pub invariant_of-restored : goal.invariant_of-restored
invariant_of-restored g c =
    let told = c.in_ok-world.ensures in
    let world = c.in_ok-world.world in
    let entries = c.args.entries.now in
    let of_ring = subst (λ (ring : RingValue). Replays ring c.args.approved.now.plan world entries) c.requires.ring told.run in
    let of_plan = subst (λ (plan : List Planned). Replays g.L.RunLedger.ring plan world entries) c.requires.plan of_ring in
    record {
      ring = told.ring ∙ c.requires.ring;
      plan = told.plan ∙ c.requires.plan;
      replays = subst (λ (xs : List Entry). Replays g.L.RunLedger.ring g.L.RunLedger.plan world xs) (sym {A = List Entry} told.items) of_plan;
      counted = search rules;
      few = search rules;
      puts = search rules;
      gets = search rules;
    }
