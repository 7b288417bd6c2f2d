use Rattle.plan_runs.specs.World.{opening_world}
use Rattle.ring_core.proofs.FirstFault.{leads_without_fault}
use Rattle.ring_core.proofs.Followed.{replays_all, fault_from_start}
use Rattle.ring_core.proofs.replaying.replay.Goals as goal

pub returns-in-Ok-clause-ok : goal.returns-in-Ok-clause-ok
returns-in-Ok-clause-ok c =
    let approved = c.args.approved.now in
    let start = c.in_ok-world.ensures in
    replays_all c.in_ok-world.world c.follow_all-found.new.world approved.ring approved.plan c.args.history.now start.ring start.plan start.opening c.in-Ok.ensures.ok

pub returns-clause-err : goal.returns-clause-err
returns-clause-err c other =
    let approved = c.args.approved.now in
    let start = c.in_ok-world.ensures in
    fault_from_start c.in_ok-world.world approved.ring approved.plan c.args.history.now c.in-Err.refusal start.ring start.plan start.opening (c.in-Err.ensures.err other)

pub returns-clause-only : goal.returns-clause-only
returns-clause-only c other w run =
    let approved = c.args.approved.now in
    leads_without_fault approved.ring approved.plan (opening_world approved.ring) w 0 c.args.history.now c.in-Err.refusal run (returns-clause-err c other)
