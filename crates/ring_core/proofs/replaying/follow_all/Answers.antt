use Rattle.std.proofs.Common.{rules, ◌≡◌, ◌≢◌, ◌∙◌, ◌+◌, List, [], ◌∷◌, ◌++◌, take, Err, IfErr, sym, ap, subst, arith}
use Rattle.std.proofs.lemmas.List.{length-take, take_more}
use Rattle.plan_runs.specs.declared.event.Entry.{Entry}
use Rattle.plan_runs.specs.declared.event.Reply.{Reply}
use Rattle.plan_runs.specs.World.{World as TheWorld}
use Rattle.ring_names.specs.declared.refusal.Refusal.TheVariants.{OutOfMemory}
use Rattle.ring_core.specs.World.{ring_of, plan_of, Meets, Answers}
use Rattle.ring_core.proofs.SoundAfterEvent.{has_number}
use Rattle.ring_core.specs.Replays.{Follows}
use Rattle.ring_core.specs.Faults.{IsFirstFault}
use Rattle.ring_core.proofs.Followed.{follows_one, fault_followed}
use Rattle.ring_core.proofs.replaying.follow_all.Goals as goal

pub follow-requires : goal.follow-requires
follow-requires c =
    let p = c.loop-place.invariant.puts in
    let g = c.loop-place.invariant.gets in
    let n = length-take c.loop-place.place c.args.history.now in
    has_number c.loop-place.world.parts c.index-history-place.result.event (omega arith) (omega arith)

pub loop-place-preserved : goal.loop-place-preserved
loop-place-preserved c =
    let xs = c.args.history.now in
    let x = c.index-history-place.result in
    let front = take c.loop-place.place xs in
    let one : take (c.loop-place.place + 1) xs ≡ front ++ x ∷ [] = take_more xs c.loop-place.place x c.loop-place-test.true ∙ ap (λ (y : Entry). front ++ y ∷ []) (sym c.index-history-place.is) in
    let told = c.in_ok-follow.ensures.ok in
    subst (λ (ys : List Entry). Follows c.args.world.now ys c.follow.new.world) (sym one)
    (follows_one c.args.world.now c.loop-place.world c.follow.new.world front x c.loop-place.invariant c.follow.ensures.ring c.follow.ensures.plan c.follow.ensures.counts
    (subst (λ (r : Reply). Answers c.loop-place.world x.event r c.follow.new.world) told.0 told.1))

pub returns-in_err-follow-clause-err : goal.returns-in_err-follow-clause-err
returns-in_err-follow-clause-err c =
    let start = c.args.world.now in
    let xs = c.args.history.now in
    let x = c.index-history-place.result in
    let refusal = c.in_err-follow.field-0.0 in
    let is : c.from_residual.result ≡ Err refusal = search rules in
    subst (λ o. IfErr o (λ e. e ≢ OutOfMemory → (w : TheWorld) → Meets start w → IsFirstFault (ring_of start) (plan_of start) w 0 xs e)) (sym is)
    (λ other. fault_followed start c.loop-place.world xs c.loop-place.place x refusal c.loop-place.invariant c.loop-place-test.true (sym c.index-history-place.is) (c.in_err-follow.ensures.err other))
