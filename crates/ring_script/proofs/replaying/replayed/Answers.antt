use Rattle.std.proofs.Common.{rules, ◌≡◌, ◌≢◌, ◌∙◌, Err, IfErr, sym, subst}
use Rattle.ring_names.specs.declared.refusal.Refusal.TheVariants.{OutOfMemory}
use Rattle.plan_runs.specs.World.{opening_world}
use Rattle.ring_core.proofs.Followed.{replays_all, fault_from_start}
use Rattle.ring_core.specs.Faults.{IsFirstFault}
use Rattle.ring_script.proofs.Replayed.{is_replayed}
use Rattle.ring_script.proofs.replaying.replayed.Goals as goal

pub write_ending-requires : goal.write_ending-requires
write_ending-requires c = c.in_ok-follow_queue.ensures.ok.ring ∙ c.requires.ring ∙ sym c.ring.ensures.value

pub returns-clause-text : goal.returns-clause-text
returns-clause-text c =
    let there = c.args.approved.now in
    let start = c.args.world.now in
    let new = c.follow_queue.new.world in
    let f = c.in_ok-follow_queue.ensures.ok in
    is_replayed there.ring c.ring.result.now there.plan new c.args.history.now c.write_ending.result
    (replays_all start new there.ring there.plan c.args.history.now c.requires.ring c.requires.plan c.requires.opening f) c.ring.ensures.value (f.plan ∙ c.requires.plan) c.write_ending.ensures.text

pub returns-in_err-follow_queue-clause-err : goal.returns-in_err-follow_queue-clause-err
returns-in_err-follow_queue-clause-err c =
    let there = c.args.approved.now in
    let refusal = c.in_err-follow_queue.field-0.0 in
    let is : c.from_residual.result ≡ Err refusal = search rules in
    subst (λ o. IfErr o (λ e. e ≢ OutOfMemory → IsFirstFault there.ring there.plan (opening_world there.ring) 0 c.args.history.now e)) (sym is)
    (λ other. fault_from_start c.args.world.now there.ring there.plan c.args.history.now refusal c.requires.ring c.requires.plan c.requires.opening (c.in_err-follow_queue.ensures.err other))
