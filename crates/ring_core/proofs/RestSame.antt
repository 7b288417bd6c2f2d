-- Stores that keep the same.
use Rattle.std.proofs.Common.{◌≡◌, ◌≤◌, List, length, sym, ap, subst}
use Rattle.ring_table.specs.Value.{RingValue}
use Rattle.plan_text.specs.declared.step.Planned.{Planned}
use Rattle.plan_runs.specs.World.{World as TheWorld}
use Rattle.store_parts.specs.Kept.{Tells}
use Rattle.store_parts.specs.declared.parts.Parts.{Parts}
use Rattle.store_parts.specs.Parts as parts
use Rattle.store_parts.specs.Parts.{IsSound}
use Rattle.ring_core.specs.declared.resting.Rest.{Rest}
use Rattle.ring_core.specs.declared.world.World.{World}
use Rattle.ring_core.specs.World.{ring_of, plan_of, Meets}
use Rattle.ring_core.specs.Resting.{rest_in, rest_of, kept_in, puts_in, gets_in, IsReady, IsSame}

-- a store that keeps what another does, of the same plan, is in each world in which that one is
pub same_store : (a b : World) → ring_of b ≡ ring_of a → plan_of b ≡ plan_of a → rest_of b ≡ rest_of a → IsSame a b
same_store a b ring plan rest = record {
  ring = ring;
  plan = plan;
  meets = meets;
  puts = ap (λ (k : Rest). puts_in k) rest;
  gets = ap (λ (k : Rest). gets_in k) rest;
}
  where
    meets : (w : TheWorld) → Meets a w → Meets b w
    meets w m =
        let of_ring = subst (λ (r : RingValue). Tells r (plan_of a) (kept_in (rest_of a)) w) (sym ring) m in
        let of_plan = subst (λ (p : List Planned). Tells (ring_of b) p (kept_in (rest_of a)) w) (sym plan) of_ring in
        subst (λ (k : Rest). Tells (ring_of b) (plan_of b) (kept_in k) w) (sym rest) of_plan

-- what is kept is that of a store that is sound
pub sound_again : (ring : RingValue) (plan : List Planned) (p : Parts) (rest : Rest) → parts.ring_of p ≡ ring → parts.plan_of p ≡ plan → rest_in p ≡ rest → IsReady ring plan rest
    → IsSound p × (length p.puts ≤ 4294967295) × (length p.gets ≤ 4294967295)
sound_again ring plan p rest of_ring of_plan kept ready =
    let by_ring = subst (λ (r : RingValue). IsReady r plan rest) (sym of_ring) ready in
    let by_plan = subst (λ (q : List Planned). IsReady (parts.ring_of p) q rest) (sym of_plan) by_ring in
    let here = subst (λ (k : Rest). IsReady (parts.ring_of p) (parts.plan_of p) k) (sym kept) by_plan in
    (record { met = here.met; sized = here.sized }, here.puts, here.gets)

-- what a store keeps that is sound
pub ready_at : (a : World) (rest : Rest) → rest ≡ rest_of a → IsReady (ring_of a) (plan_of a) rest
ready_at a rest is = subst (λ (k : Rest). IsReady (ring_of a) (plan_of a) k) (sym is) (record {
  met = a.sound.met;
  sized = a.sound.sized;
  puts = a.puts;
  gets = a.gets;
})
