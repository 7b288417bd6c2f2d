use Rattle.std.proofs.Common.{rules, ◌≡◌, ◌≢◌, Err, IfErr, sym, subst}
use Rattle.ring_names.specs.declared.refusal.Refusal.TheVariants.{OutOfMemory}
use Rattle.plan_runs.specs.World.{World as TheWorld}
use Rattle.ring_core.specs.World.{ring_of, plan_of, Meets}
use Rattle.ring_core.specs.Faults.{FailsAt}
use Rattle.ring_exec.proofs.restoring.retell.Goals as goal

pub returns-in_err-reply-clause-err : goal.returns-in_err-reply-clause-err
returns-in_err-reply-clause-err c =
    let start = c.args.world.now in
    let refusal = c.in_err-reply.field-0.0 in
    let is : c.from_residual.result ≡ Err refusal = search rules in
    subst (λ o. IfErr o (λ e. e ≢ OutOfMemory → (w : TheWorld) → Meets start w → FailsAt (ring_of start) (plan_of start) w c.args.place c.args.entry.now e)) (sym is)
    c.in_err-reply.ensures.err
