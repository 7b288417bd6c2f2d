use Rattle.std.proofs.Common.{List, sym, subst}
use Rattle.plan_check.specs.Approval.{Approval}
use Rattle.store_parts.specs.declared.steps.StepNow.{StepNow}
use Rattle.store_parts.specs.Kept.{Tells}
use Rattle.store_parts.specs.Parts.{ring_of, plan_of, kept_of}
use Rattle.store_events.proofs.RequiresMet.{done_there, done_other}
use Rattle.store_events.proofs.StepsOn.{read_at, read_within, do_on}
use Rattle.store_events.proofs.steps.do_step.Goals as goal

pub step-planned-requires : goal.step-planned-requires
step-planned-requires c = read_within (plan_of c.args.parts.now) c.plan.result.now c.args.step c.plan.ensures.value (done_there c.args.parts.now c.requires.sound c.args.step c.requires.passes)

pub act-requires-clause-other : goal.act-requires-clause-other
act-requires-clause-other c =
    let s = c.step-planned.result.now in
    let at = read_at (plan_of c.args.parts.now) c.plan.result.now c.args.step s c.plan.ensures.value c.step-planned.ensures.value in
    done_other c.args.parts.now c.requires.sound c.args.step s c.requires.passes at

pub returns-clause-next : goal.returns-clause-next
returns-clause-next c w m =
    let a = c.args.parts.now in
    let s = c.step-planned.result.now in
    let at = read_at (plan_of a) c.plan.result.now c.args.step s c.plan.ensures.value c.step-planned.ensures.value in
    let k = kept_of c.act.new.parts in
    let on = do_on (ring_of a) (plan_of a) (kept_of a) w c.args.step m (sym (c.requires.passes w m)) s k at c.act.ensures.acts in
    let told : Tells (ring_of a) (plan_of a) (record k { steps = c.finish.new.self }) on.0
    = subst (λ (steps : List StepNow). Tells (ring_of a) (plan_of a) (record k { steps = steps }) on.0) (sym c.finish.ensures) on.2 in
    (on.0, on.1, subst (λ (both : Approval). Tells both.ring both.plan (record k { steps = c.finish.new.self }) on.0) (sym c.act.ensures.follows.approved) told)
