use Rattle.std.proofs.Common.{◌≡◌, ◌∙◌, ℕ, ◌+◌, List, [], ◌∷◌, ◌++◌, length, take, sym, ap, subst, arith}
use Rattle.std.proofs.lemmas.List.{length-take, take_more}
use Rattle.plan_runs.specs.declared.event.Event.{Event}
use Rattle.ring_core.proofs.SoundAfterEvent.{has_number}
use Rattle.ring_script.specs.Steps.{Happens, Plays}
use Rattle.ring_script.proofs.Played.{plays_one}
use Rattle.ring_script.proofs.playing.play_events.Goals as goal

-- src/playing.rt:54:9
pub play_event-requires : goal.play_event-requires
play_event-requires c =
    let p = c.loop-place.invariant.puts in
    let g = c.loop-place.invariant.gets in
    let n = length-take c.loop-place.place c.args.events.now in
    has_number c.loop-place.world.parts c.index-events-place.result (omega arith) (omega arith)

-- src/playing.rt:53:5
pub loop-place-preserved : goal.loop-place-preserved
loop-place-preserved c =
    let es = c.args.events.now in
    let e = c.index-events-place.result in
    let front = take c.loop-place.place es in
    let n : length front ≡ c.loop-place.place = (let l = length-take c.loop-place.place es in let t = c.loop-place-test.true in omega arith) in
    let one : take (c.loop-place.place + 1) es ≡ front ++ e ∷ [] = take_more es c.loop-place.place e c.loop-place-test.true ∙ ap (λ (x : Event). front ++ x ∷ []) (sym c.index-events-place.is) in
    subst (λ (xs : List Event). Plays c.args.world.now xs c.play_event.new.world c.args.out.now.items c.play_event.new.out.items) (sym one)
    (plays_one c.args.world.now c.loop-place.world c.play_event.new.world front e c.args.out.now.items c.loop-place.out.items c.play_event.new.out.items c.loop-place.invariant
    (subst (λ (k : ℕ). Happens c.loop-place.world e c.play_event.new.world c.loop-place.out.items k c.play_event.new.out.items) (sym n) c.in_ok-play_event.ensures.ok))
