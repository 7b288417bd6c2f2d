-- A history that leads a store on.
use Rattle.std.proofs.Common.{◌≡◌, List, [], ◌∷◌, ◌++◌, Ok, refl, subst}
use Rattle.std.proofs.Math.Logic.{∥∥₁_map}
use Rattle.ring_table.specs.Value.{RingValue}
use Rattle.plan_text.specs.declared.step.Planned.{Planned}
use Rattle.plan_runs.specs.declared.event.Entry.{Entry}
use Rattle.plan_runs.specs.Answers.{answer}
use Rattle.plan_runs.specs.Runs.{IsRun}
use Rattle.plan_runs.specs.World.{World as TheWorld, opening_world}
use Rattle.plan_runs.proofs.Split.{joined}
use Rattle.ring_core.specs.declared.world.World.{World}
use Rattle.ring_core.specs.World.{ring_of, plan_of, Answers, Meets}
use Rattle.ring_core.specs.Replays.{Replays}

-- nothing has happened to a store
pub leads_first : (ring : RingValue) (plan : List Planned) (a : World) → Meets a (opening_world ring) → Replays ring plan a []
leads_first ring plan a m = ∣ (opening_world ring, m, refl) ∣₁

-- an entry more
pub leads_more : (ring : RingValue) (plan : List Planned) (a b : World) (front : List Entry) (x : Entry) → ring_of a ≡ ring → plan_of a ≡ plan → Replays ring plan a front
    → Answers a x.event x.reply b → Replays ring plan b (front ++ x ∷ [])
leads_more ring plan a b front x of_ring of_plan led answers = ∥∥₁_map led (λ it. more it.0 it.1 it.2)
  where
    more : (w : TheWorld) → Meets a w → IsRun ring plan front w → (u : TheWorld) × Meets b u × IsRun ring plan (front ++ x ∷ []) u
    more w m run =
        let next = answers w m in
        let here : answer ring (plan_of a) w x.event ≡ Ok (next.0, x.reply) = subst (λ (r : RingValue). answer r (plan_of a) w x.event ≡ Ok (next.0, x.reply)) of_ring next.1 in
        let same : answer ring plan w x.event ≡ Ok (next.0, x.reply) = subst (λ (s : List Planned). answer ring s w x.event ≡ Ok (next.0, x.reply)) of_plan here in
        (next.0, next.2, joined ring plan (opening_world ring) w next.0 front (x ∷ []) run (next.0, same, refl))
