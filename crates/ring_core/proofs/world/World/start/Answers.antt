use Rattle.std.proofs.Common.{◌≡◌, ◌≤◌, length, arith}
use Rattle.plan_runs.specs.World.{opening_world}
use Rattle.ring_core.proofs.world.World.start.Goals as goal

pub invariant_of-result : goal.invariant_of-result
invariant_of-result c =
    let m = (c.in_ok-parts.ensures).opening in
    record {
      sound = record { met = ∣ (opening_world c.args.approved.now.ring, m) ∣₁; sized = (c.in_ok-parts.ensures).sized };
      puts = (let e = m.puts.each in omega arith);
      gets = (let e = m.gets.each in omega arith);
    }
