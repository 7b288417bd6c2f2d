use Rattle.plan_runs.specs.World.{opening_world}
use Rattle.ring_core.proofs.FirstFault.{fault_not_full}
use Rattle.ring_core.proofs.Followed.{replays_all, fault_from_start}
use Rattle.ring_exec.proofs.restoring.retold.Goals as goal

pub returns-in-Ok-clause-run : goal.returns-in-Ok-clause-run
returns-in-Ok-clause-run c =
    let approved = c.args.approved.now in
    let start = c.in_ok-world.ensures in
    replays_all c.in_ok-world.world c.retell_all.new.world approved.ring approved.plan c.args.entries.now start.ring start.plan start.opening c.in-Ok.ensures.ok

pub returns-clause-room : goal.returns-clause-room
returns-clause-room c =
    let approved = c.args.approved.now in
    let start = c.in_ok-world.ensures in
    fault_not_full approved.ring approved.plan (opening_world approved.ring) 0 c.args.entries.now c.in-Err.refusal
    (λ other. fault_from_start c.in_ok-world.world approved.ring approved.plan c.args.entries.now c.in-Err.refusal start.ring start.plan start.opening (c.in-Err.ensures.err other))
