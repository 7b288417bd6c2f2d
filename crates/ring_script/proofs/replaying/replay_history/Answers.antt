use Rattle.std.proofs.Common.{◌≢◌, List, IfOk, IfErr, subst}
use Rattle.plan_runs.specs.declared.event.Entry.{Entry}
use Rattle.plan_runs.specs.World.{opening_world}
use Rattle.ring_names.specs.declared.refusal.Refusal.TheVariants.{OutOfMemory}
use Rattle.ring_core.specs.Faults.{IsFirstFault}
use Rattle.ring_script.specs.Replay.{IsReplayed}
use Rattle.ring_script.proofs.replaying.replay_history.Goals as goal

pub returns-clause-text : goal.returns-clause-text
returns-clause-text c =
    let there = c.args.approved.now in
    subst (λ (h : List Entry). IfOk c.replayed-text.result (λ v. IsReplayed there.ring there.plan h v.items)) c.of-entries.ensures c.replayed-text.ensures.text

pub returns-clause-err : goal.returns-clause-err
returns-clause-err c =
    let there = c.args.approved.now in
    subst (λ (h : List Entry). IfErr c.replayed-text.result (λ e. e ≢ OutOfMemory → IsFirstFault there.ring there.plan (opening_world there.ring) 0 h e)) c.of-entries.ensures c.replayed-text.ensures.err
