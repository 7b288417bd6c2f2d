use Rattle.std.proofs.Common.{◌<◌, ◌≤◌, eqb-true, subst, arith}
use Rattle.ring_table.specs.Value.{RingValue}
use Rattle.plan_runs.specs.Versions.{is_held, put_slot}
use Rattle.ring_core.specs.World.{ring_of, plan_of}
use Rattle.plan_around.proofs.Comparing.{same_bit}
use Rattle.plan_around.proofs.alike.is_held_alike.Goals as goal

pub returns : goal.returns
returns c t w u m n i l =
    let a = c.args.a.now in
    let b = c.args.b.now in
    let few : (ring_of b).n ≤ 7 = n.is_ring.slots in
    let small : i < 32 = omega arith in
    same_bit c.held_slots.result c.held_slots-2.result i (ring_of a).n (ring_of b).n (is_held (ring_of a) (plan_of a) w c.args.put (put_slot (ring_of a) w c.args.put i)) (is_held (ring_of b) (plan_of b) u c.args.put (put_slot (ring_of b) u c.args.put i))
    (eqb-true c.held_slots.result c.held_slots-2.result t) (subst (λ (r : RingValue). i < r.n) c.requires.same l) l (c.held_slots.ensures.now w m i small) (c.held_slots-2.ensures.now u n i small)
