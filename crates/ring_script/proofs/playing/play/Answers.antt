use Rattle.std.proofs.Common.{◌≡◌, ◌∙◌, ℕ, List, IfOk, ap, subst}
use Rattle.ring_table.specs.Value.{RingValue}
use Rattle.plan_text.specs.declared.step.Planned.{Planned}
use Rattle.plan_runs.specs.declared.event.Event.{Event}
use Rattle.ring_core.specs.World.{plan_of}
use Rattle.ring_script.specs.Play.{play_text}
use Rattle.ring_script.proofs.playing.play.Goals as goal

pub returns-clause-text : goal.returns-clause-text
returns-clause-text c =
    let world = c.in_ok-world.world in
    let same = ap (λ (r : RingValue). play_text r (plan_of world) c.events.result.now) c.ring.ensures.value
    ∙ (ap (λ (s : List Planned). play_text c.args.approved.now.ring s c.events.result.now) c.in_ok-world.ensures.plan
    ∙ ap (λ (es : List Event). play_text c.args.approved.now.ring c.args.approved.now.plan es) c.events.ensures.value) in
    subst (λ (text : List ℕ). IfOk c.played.result (λ v. v.items ≡ text)) same c.played.ensures.text
