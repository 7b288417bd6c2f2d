use Rattle.std.proofs.Common.{◌∙◌, ℕ, List, [], ◌∷◌, ◌++◌, length, sym, ap, subst, arith, append_assoc, length-append}
use Rattle.plan_runs.specs.declared.event.Event.{Event}
use Rattle.ring_core.proofs.SoundAfterEvent.{has_number}
use Rattle.ring_script.specs.Steps.{Happens}
use Rattle.ring_script.proofs.Played.{plays_one}
use Rattle.ring_script.proofs.playing.play_queue.Goals as goal

pub play_given-requires : goal.play_given-requires
play_given-requires c =
    let i = c.events.invariant in
    let p = i.3.puts in
    let g = i.3.gets in
    let all = ap length i.1 in
    let n = length-append i.0 c.events.events in
    has_number c.events.world.parts c.in-Some.event (omega arith) (omega arith)

pub events-preserved : goal.events-preserved
events-preserved c =
    let i = c.events.invariant in
    let e = c.in-Some.event in
    let longer = length-append i.0 (e ∷ []) in
    let n = i.2 in
    let happened = subst (λ (k : ℕ). Happens c.events.world e c.play_given.new.world c.events.out.items k c.play_given.new.out.items) (sym i.2) c.in_ok-play_given.ensures.ok in (
      i.0 ++ e ∷ [],
      i.1 ∙ ap (λ (xs : List Event). i.0 ++ xs) c.in-Some.ensures ∙ sym (append_assoc i.0 (e ∷ []) c.next.new.self),
      omega arith,
      plays_one c.args.world.now c.events.world c.play_given.new.world i.0 e c.args.out.now.items c.events.out.items c.play_given.new.out.items i.3 happened,
    )
