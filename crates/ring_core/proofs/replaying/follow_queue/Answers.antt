use Rattle.std.proofs.Common.{rules, ◌≡◌, ◌≢◌, ◌∙◌, List, [], ◌∷◌, ◌++◌, length, Err, IfErr, append_assoc, length-append, sym, ap, subst, arith}
use Rattle.plan_runs.specs.declared.event.Entry.{Entry}
use Rattle.plan_runs.specs.World.{World as TheWorld}
use Rattle.ring_names.specs.declared.refusal.Refusal.TheVariants.{OutOfMemory}
use Rattle.ring_core.specs.World.{ring_of, plan_of, Meets}
use Rattle.ring_core.specs.Faults.{IsFirstFault}
use Rattle.ring_core.proofs.SoundAfterEvent.{has_number}
use Rattle.ring_core.proofs.Followed.{follows_one, fault_after}
use Rattle.ring_core.proofs.replaying.follow_queue.Goals as goal

pub follow_given-requires : goal.follow_given-requires
follow_given-requires c =
    let i = c.entries.invariant in
    let p = i.3.puts in
    let g = i.3.gets in
    let all = ap length i.1 in
    let n = length-append i.0 c.entries.entries in
    has_number c.entries.world.parts c.in-Some.entry.event (omega arith) (omega arith)

pub entries-preserved : goal.entries-preserved
entries-preserved c =
    let i = c.entries.invariant in
    let x = c.in-Some.entry in
    let rest = c.next.new.self in
    let n = i.2 in
    let longer = length-append i.0 (x ∷ []) in (
      i.0 ++ x ∷ [],
      i.1 ∙ ap (λ (xs : List Entry). i.0 ++ xs) c.in-Some.ensures ∙ sym (append_assoc i.0 (x ∷ []) rest),
      omega arith,
      follows_one c.args.world.now c.entries.world c.follow_given.new.world i.0 x i.3 c.follow_given.ensures.ring c.follow_given.ensures.plan c.follow_given.ensures.counts c.in_ok-follow_given.ensures.ok,
    )

pub returns-in_err-follow_given-clause-err : goal.returns-in_err-follow_given-clause-err
returns-in_err-follow_given-clause-err c =
    let start = c.args.world.now in
    let i = c.entries.invariant in
    let refusal = c.in_err-follow_given.field-0.0 in
    let is : c.from_residual.result ≡ Err refusal = search rules in
    subst (λ o. IfErr o (λ e. e ≢ OutOfMemory → (w : TheWorld) → Meets start w → IsFirstFault (ring_of start) (plan_of start) w 0 c.args.entries.now e)) (sym is)
    (λ other w m. subst (λ (xs : List Entry). IsFirstFault (ring_of start) (plan_of start) w 0 xs refusal) (sym (i.1 ∙ ap (λ (xs : List Entry). i.0 ++ xs) c.in-Some.ensures))
    (fault_after start c.entries.world i.0 c.in-Some.entry c.next.new.self c.entries.place refusal i.3 i.2 (c.in_err-follow_given.ensures.err other) w m))
