use Rattle.std.proofs.Common.{◌≡◌, ◌∙◌, ℕ, List, IfOk, ap, subst}
use Rattle.ring_table.specs.Value.{RingValue}
use Rattle.plan_text.specs.declared.step.Planned.{Planned}
use Rattle.plan_runs.specs.declared.event.Event.{Event}
use Rattle.ring_core.specs.World.{plan_of}
use Rattle.ring_script.specs.Play.{play_text}
use Rattle.ring_script.proofs.playing.play_whole.Goals as goal

pub returns-clause-text : goal.returns-clause-text
returns-clause-text c =
    let world = c.in_ok-world.world in
    let events = c.of-events.result in
    let same = ap (λ (r : RingValue). play_text r (plan_of world) events) c.ring.ensures.value
    ∙ (ap (λ (s : List Planned). play_text c.args.approved.now.ring s events) c.in_ok-world.ensures.plan
    ∙ ap (λ (es : List Event). play_text c.args.approved.now.ring c.args.approved.now.plan es) (c.of-events.ensures ∙ c.into_vec.ensures.value)) in
    subst (λ (text : List ℕ). IfOk c.played_queue-text.result (λ v. v.items ≡ text)) same c.played_queue-text.ensures.text
