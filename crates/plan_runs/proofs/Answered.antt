-- What an event is answered, by the first of its guards that fails.
use Rattle.std.proofs.Common.{◌≡◌, ap, refl, List, Option, Some, None, Result, Ok, Err}
use Rattle.ring_names.specs.declared.refusal.Refusal.{Refusal}
use Rattle.ring_table.specs.Value.{RingValue}
use Rattle.plan_text.specs.declared.step.Planned.{Planned}
use Rattle.plan_stage.specs.Clauses.{first_failing}
use Rattle.plan_runs.specs.declared.event.Event.{Event}
use Rattle.plan_runs.specs.declared.event.Reply.{Reply}
use Rattle.plan_runs.specs.World.{World}
use Rattle.plan_runs.specs.Guards.{guards}
use Rattle.plan_runs.specs.Effects.{effect}
use Rattle.plan_runs.specs.Answers.{reply_to, answer}

pub allowed : (ring : RingValue) (plan : List Planned) (w : World) (e : Event) → first_failing (guards ring plan w e) ≡ None → answer ring plan w e ≡ Ok (effect ring plan w e, reply_to ring plan w e)
allowed ring plan w e h = rw (answer, h) refl

pub refused : (ring : RingValue) (plan : List Planned) (w : World) (e : Event) (f : Refusal) → first_failing (guards ring plan w e) ≡ Some f → answer ring plan w e ≡ Err f
refused ring plan w e f h = rw (answer, h) refl

by_answer : (o : Option Refusal) (v u : World) (s r : Reply) → ◌≡◌ {A = Result (World × Reply) Refusal} (elim o [ Some f ↦ Err f | None ↦ Ok (v, s) ]) (Ok (u, r)) → (o ≡ None) × (v ≡ u) × (s ≡ r)
by_answer (Some f) v u s r e = absurd cc
by_answer None v u s r e =
    let p : (v, s) ≡ (u, r) = cc in
    (refl, ap (λ (q : World × Reply). q.0) p, ap (λ (q : World × Reply). q.1) p)

-- an event that is answered passes its guards, and leads to its effect with that reply
pub answered : (ring : RingValue) (plan : List Planned) (w u : World) (e : Event) (r : Reply) → answer ring plan w e ≡ Ok (u, r)
    → (first_failing (guards ring plan w e) ≡ None) × (effect ring plan w e ≡ u) × (reply_to ring plan w e ≡ r)
answered ring plan w u e r h = by_answer (first_failing (guards ring plan w e)) (effect ring plan w e) u (reply_to ring plan w e) r h

by_refusal : (o : Option Refusal) (v : World) (s : Reply) (f : Refusal) → ◌≡◌ {A = Result (World × Reply) Refusal} (elim o [ Some g ↦ Err g | None ↦ Ok (v, s) ]) (Err f) → o ≡ Some f
by_refusal (Some g) v s f e = (let p : g ≡ f = cc in ap Some p)
by_refusal None v s f e = absurd cc

pub first_refused : (ring : RingValue) (plan : List Planned) (w : World) (e : Event) (f : Refusal) → answer ring plan w e ≡ Err f → first_failing (guards ring plan w e) ≡ Some f
first_refused ring plan w e f h = by_refusal (first_failing (guards ring plan w e)) (effect ring plan w e) (reply_to ring plan w e) f h
