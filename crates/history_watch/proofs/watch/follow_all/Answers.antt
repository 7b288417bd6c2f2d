use Rattle.std.proofs.Common.{rules, ◌≡◌, ◌≢◌, ◌∙◌, ◌+◌, ℕ, List, [], ◌∷◌, ◌++◌, take, Err, IfErr, sym, ap, subst, arith}
use Rattle.std.proofs.lemmas.List.{length-take, take_more}
use Rattle.ring_names.specs.declared.refusal.Refusal.TheVariants.{OutOfMemory}
use Rattle.plan_runs.specs.declared.event.Entry.{Entry}
use Rattle.plan_runs.specs.declared.event.Reply.{Reply}
use Rattle.ring_core.specs.Faults.{FailsAt}
use Rattle.ring_core.specs.World.{ring_of, plan_of, Answers}
use Rattle.ring_core.specs.Replays.{Follows}
use Rattle.ring_core.proofs.SoundAfterEvent.{has_number}
use Rattle.ring_core.proofs.Followed.{follows_one}
use Rattle.history_watch.specs.Following.{FailsIn}
use Rattle.history_watch.proofs.Following.{fails_at}
use Rattle.history_watch.proofs.watch.follow_all.Goals as goal

pub follow-requires : goal.follow-requires
follow-requires c =
    let p = c.loop-place.invariant.follows.puts in
    let g = c.loop-place.invariant.follows.gets in
    let n = length-take c.loop-place.place c.args.entries.now in
    let k = c.loop-place.invariant.counted in
    has_number c.loop-place.world.parts c.index-entries-place.result.event (omega arith) (omega arith)

pub loop-place-preserved : goal.loop-place-preserved
loop-place-preserved c =
    let xs = c.args.entries.now in
    let x = c.index-entries-place.result in
    let front = take c.loop-place.place xs in
    let one : take (c.loop-place.place + 1) xs ≡ front ++ x ∷ [] = take_more xs c.loop-place.place x c.loop-place-test.true ∙ ap (λ (y : Entry). front ++ y ∷ []) (sym c.index-entries-place.is) in
    let told = c.in_ok-follow.ensures.ok in
    record {
      follows = subst (λ (ys : List Entry). Follows c.args.world.now ys c.follow.new.world) (sym one)
          (follows_one c.args.world.now c.loop-place.world c.follow.new.world front x c.loop-place.invariant.follows c.follow.ensures.ring c.follow.ensures.plan c.follow.ensures.counts
          (subst (λ (r : Reply). Answers c.loop-place.world x.event r c.follow.new.world) told.0 told.1));
      counted = (let k = c.loop-place.invariant.counted in omega arith);
    }

pub returns-in_err-follow-clause-err : goal.returns-in_err-follow-clause-err
returns-in_err-follow-clause-err c =
    let refusal = c.in_err-follow.field-0.0 in
    let is : c.from_residual.result ≡ Err refusal = search rules in
    subst (λ o. IfErr o (λ e. e ≢ OutOfMemory → FailsIn c.args.world.now c.args.count.now c.args.line c.args.entries.now e)) (sym is)
    (λ other. fails_at c.args.world.now c.loop-place.world c.args.count.now c.loop-place.place c.args.line c.args.entries.now c.index-entries-place.result refusal c.loop-place.invariant.follows c.loop-place-test.true (sym c.index-entries-place.is)
    (λ w m. subst (λ (n : ℕ). FailsAt (ring_of c.loop-place.world) (plan_of c.loop-place.world) w n c.index-entries-place.result refusal) c.loop-place.invariant.counted (c.in_err-follow.ensures.err other w m)))
