-- A run in two parts.
use Rattle.std.proofs.Common.{List, [], ◌∷◌, ◌++◌, refl, subst}
use Rattle.std.specs.Prelude.{◌↔◌}
use Rattle.ring_table.specs.Value.{RingValue}
use Rattle.plan_text.specs.declared.step.Planned.{Planned}
use Rattle.plan_runs.specs.declared.event.Entry.{Entry}
use Rattle.plan_runs.specs.World.{World}
use Rattle.plan_runs.specs.Runs.{Leads}

pub parts : (ring : RingValue) (plan : List Planned) (w v : World) (first second : List Entry) → Leads ring plan w (first ++ second) v → (u : World) × Leads ring plan w first u × Leads ring plan u second v
parts ring plan w v [] second l = (w, refl, l)
parts ring plan w v (x ∷ first) second l =
    let r = parts ring plan l.0 v first second l.2 in
    (r.0, (l.0, l.1, r.1), r.2)

pub joined : (ring : RingValue) (plan : List Planned) (w u v : World) (first second : List Entry) → Leads ring plan w first u → Leads ring plan u second v → Leads ring plan w (first ++ second) v
joined ring plan w u v [] second l m = subst (λ (z : World). Leads ring plan z second v) l m
joined ring plan w u v (x ∷ first) second l m = (l.0, l.1, joined ring plan l.0 u v first second l.2 m)

pub split : (ring : RingValue) (plan : List Planned) (w v : World) (first second : List Entry) → Leads ring plan w (first ++ second) v ↔ ((u : World) × Leads ring plan w first u × Leads ring plan u second v)
split ring plan w v first second = (parts ring plan w v first second, λ r. joined ring plan w r.0 v first second r.1 r.2)
