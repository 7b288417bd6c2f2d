use Rattle.std.proofs.Common.{rules, ◌≡◌, List, [], sym, subst, ◌∙◌}
use Rattle.plan_runs.specs.World.{opening_world}
use Rattle.plan_runs.specs.declared.event.Entry.{Entry}
use Rattle.ring_table.specs.Value.{RingValue}
use Rattle.ring_core.specs.World.{Meets}
use Rattle.ring_core.specs.Replays.{Replays}
use Rattle.ring_exec.proofs.Histories.{replays_none}
use Rattle.ring_exec.proofs.ledgered.Ledgered.new.Goals as goal

pub invariant_of-ledgered : goal.invariant_of-ledgered
invariant_of-ledgered g c =
    let world = c.in_ok-world.world in
    let opening : Meets world (opening_world g.L.RunLedger.ring) = subst (λ (ring : RingValue). Meets world (opening_world ring)) c.requires.ring c.in_ok-world.ensures.opening in
    let none : c.new.result.items ≡ [] = search rules in
    let replays = replays_none g.L.RunLedger.ring g.L.RunLedger.plan world opening in
    record {
      ring = c.in_ok-world.ensures.ring ∙ c.requires.ring;
      plan = c.in_ok-world.ensures.plan ∙ c.requires.plan;
      replays = subst (λ (xs : List Entry). Replays g.L.RunLedger.ring g.L.RunLedger.plan world xs) (sym {A = List Entry} none) replays;
      counted = search rules;
      few = search rules;
      puts = search rules;
      gets = search rules;
    }
