use Rattle.std.proofs.Common.{rules, ◌≡◌, ◌≢◌, ◌∙◌, ◌+◌, List, [], ◌∷◌, ◌++◌, take, append_assoc, Err, IfErr, sym, ap, subst, arith}
use Rattle.std.proofs.lemmas.List.{length-take, take_more}
use Rattle.ring_names.specs.declared.refusal.Refusal.TheVariants.{OutOfMemory}
use Rattle.plan_runs.specs.declared.event.Entry.{Entry}
use Rattle.plan_runs.specs.World.{World as TheWorld}
use Rattle.ring_core.specs.World.{ring_of, plan_of, Meets}
use Rattle.ring_core.proofs.SoundAfterEvent.{has_number}
use Rattle.ring_core.specs.Replays.{Follows}
use Rattle.ring_core.specs.Faults.{IsFirstFault}
use Rattle.ring_core.proofs.Followed.{follows_one, fault_followed}
use Rattle.ring_exec.proofs.restoring.retell_all.Goals as goal

pub retell-requires : goal.retell-requires
retell-requires c =
    let p = c.loop-place.invariant.followed.puts in
    let g = c.loop-place.invariant.followed.gets in
    let n = length-take c.loop-place.place c.args.entries.now in
    has_number c.loop-place.world.parts c.index-entries-place.result.event (omega arith) (omega arith)

pub loop-place-preserved : goal.loop-place-preserved
loop-place-preserved c =
    let xs = c.args.entries.now in
    let x = c.index-entries-place.result in
    let front = take c.loop-place.place xs in
    let one : take (c.loop-place.place + 1) xs ≡ front ++ x ∷ [] = take_more xs c.loop-place.place x c.loop-place-test.true ∙ ap (λ (y : Entry). front ++ y ∷ []) (sym c.index-entries-place.is) in
    let i = c.loop-place.invariant in
    let items = i.items in
    let len = i.len in
    let room = i.room in
    let told = c.in_ok-told.ensures.entry in
    record {
      items = c.push_reserved.ensures.items
          ∙ (ap (λ (y : Entry). c.loop-place.history.items ++ y ∷ []) told
          ∙ (ap (λ (ys : List Entry). ys ++ x ∷ []) items
          ∙ (append_assoc c.args.history.now.items front (x ∷ []) ∙ ap (λ (ys : List Entry). c.args.history.now.items ++ ys) (sym one))));
      len = (let l = c.push_reserved.ensures.len in omega arith);
      room = (let l = c.push_reserved.ensures.capacity in omega arith);
      followed = subst (λ (ys : List Entry). Follows c.args.world.now ys c.retell.new.world) (sym one)
          (follows_one c.args.world.now c.loop-place.world c.retell.new.world front x i.followed c.retell.ensures.ring c.retell.ensures.plan c.retell.ensures.counts c.in_ok-told.ensures.ok);
    }

pub returns-in_err-told-clause-err : goal.returns-in_err-told-clause-err
returns-in_err-told-clause-err c =
    let start = c.args.world.now in
    let xs = c.args.entries.now in
    let x = c.index-entries-place.result in
    let refusal = c.in_err-told.field-0.0 in
    let is : c.from_residual-in_err-told.result ≡ Err refusal = search rules in
    subst (λ o. IfErr o (λ e. e ≢ OutOfMemory → (w : TheWorld) → Meets start w → IsFirstFault (ring_of start) (plan_of start) w 0 xs e)) (sym is)
    (λ other. fault_followed start c.loop-place.world xs c.loop-place.place x refusal c.loop-place.invariant.followed c.loop-place-test.true (sym c.index-entries-place.is) (c.in_err-told.ensures.err other))
