-- In every run of a sound plan acknowledged puts are firm enough, and so held where every read meets them.
use Rattle.std.proofs.Common.{◌≡◌, ℕ, ◌+◌, ◌<◌, ◌≤◌, true, List, [], ◌∷◌, length, refl, sym, subst, arith, ltb-true}
use Rattle.std.specs.Prelude.{Ok}
use Rattle.ring_names.specs.declared.ids.NodeId.{NodeId}
use Rattle.ring_table.specs.Value.{RingValue}
use Rattle.plan_text.specs.declared.step.Planned.{Planned}
use Rattle.plan_runs.specs.declared.event.Event.{Event}
use Rattle.plan_runs.specs.declared.event.Event.TheVariants.{Lose}
use Rattle.plan_runs.specs.declared.event.Entry.{Entry}
use Rattle.plan_runs.specs.World.{World, opening_world, is_acked}
use Rattle.plan_runs.specs.Guards.{guards}
use Rattle.plan_runs.specs.Effects.{effect}
use Rattle.plan_check.specs.Firm.{Holding}
use Rattle.plan_runs.specs.Runs.{Always}
use Rattle.plan_runs.specs.Reached.{Reached}
use Rattle.plan_runs.specs.Answers.{answer}
use Rattle.plan_runs.specs.Runs.{Leads}
use Rattle.plan_check.specs.Safe.{MeetsEveryRead}
use Rattle.plan_runs.proofs.Answered.{answered}
use Rattle.plan_check.proofs.Apart.{Inv, run_inv, start_inv}
use Rattle.plan_check.proofs.Chunks.{quorum_more}
use Rattle.plan_check.proofs.Doing.{event_keeps}
use Rattle.plan_runs.proofs.Lasting.{event_extends}
use Rattle.plan_check.proofs.Losing.{lose_holding}
use Rattle.plan_check.proofs.Mirrored.{Holds}
use Rattle.plan_runs.proofs.Passed.{AllMet, all_met}
use Rattle.plan_check.proofs.Quorums.{meet}
use Rattle.plan_check.proofs.Standing.{keeps_holding}

-- ---- one event

-- a node loses its data only if the ring allows it
pub may_lose : (ring : RingValue) (plan : List Planned) (w : World) (x : NodeId) → AllMet (guards ring plan w (Lose x)) → 0 < ring.loss
unfolding guards
may_lose ring plan w x g = (let l = ltb-true w.losses ring.loss g.1.0 in omega arith)

-- a loss keeps acknowledged puts firm enough
after_loss : (ring : RingValue) (plan : List Planned) → Holds ring plan → (w : World) → Inv ring plan w → Holding ring plan w → (x : NodeId)
    → AllMet (guards ring plan w (Lose x)) → Holding ring plan (effect ring plan w (Lose x))
unfolding effect
after_loss ring plan k w i h x g = lose_holding ring plan w x i.reached (event_extends ring plan w (Lose x) g) k.known (i.apart (may_lose ring plan w x g)) h

-- every event keeps acknowledged puts firm enough
pub event_holding : (ring : RingValue) (plan : List Planned) → Holds ring plan → (w : World) → Inv ring plan w → Holding ring plan w → (e : Event)
    → AllMet (guards ring plan w e) → Holding ring plan (effect ring plan w e)
event_holding ring plan k w i h (Lose x) g = after_loss ring plan k w i h x g
event_holding ring plan k w i h e g = keeps_holding ring plan w (effect ring plan w e) (event_keeps ring plan k w i.reached h e refl g) h

-- ---- a run

-- what is known of a run's world is known of the next
pub next_inv : (ring : RingValue) (plan : List Planned) → Holds ring plan → (x : Entry) (w u : World) → answer ring plan w x.event ≡ Ok (u, x.reply)
    → Inv ring plan w → Inv ring plan u
next_inv ring plan k x w u l i = run_inv ring plan k (x ∷ []) w u i (u, l, refl)

-- and that puts stay firm enough
pub next_holding : (ring : RingValue) (plan : List Planned) → Holds ring plan → (x : Entry) (w u : World) → answer ring plan w x.event ≡ Ok (u, x.reply)
    → Inv ring plan w → Holding ring plan w → Holding ring plan u
next_holding ring plan k x w u l i h =
    let a = answered ring plan w u x.event x.reply l in
    subst (λ (v : World). Holding ring plan v) a.1 (event_holding ring plan k w i h x.event (all_met (guards ring plan w x.event) a.0))

-- through a run
pub run_holding : (ring : RingValue) (plan : List Planned) → Holds ring plan → (run : List Entry) (w v : World) → Inv ring plan w → Holding ring plan w
    → Leads ring plan w run v → Holding ring plan v
run_holding ring plan k [] w v i h l = subst (λ (u : World). Holding ring plan u) (sym l) h
run_holding ring plan k (x ∷ xs) w v i h l =
    run_holding ring plan k xs l.0 v (next_inv ring plan k x w l.0 l.1 i) (next_holding ring plan k x w l.0 l.1 i h) l.2

-- at the start there are no puts
pub start_holding : (ring : RingValue) (plan : List Planned) → Holding ring plan (opening_world ring)
start_holding ring plan = record { tickets = λ v i l e. absurd (omega arith); acked = λ v e. absurd cc }

-- at every moment of every run
pub holding_always : (ring : RingValue) (plan : List Planned) → Holds ring plan → Always ring plan (Holding ring plan)
holding_always ring plan k run w is = run_holding ring plan k run (opening_world ring) w (start_inv ring plan k.known.is_ring) (start_holding ring plan) is

-- and of any R different slots one holds an acknowledged put
pub meets_reads : (ring : RingValue) (plan : List Planned) → Holds ring plan → (w : World) → Reached ring plan w → Holding ring plan w → (v : ℕ)
    → is_acked w v ≡ true → MeetsEveryRead ring plan w v
meets_reads ring plan k w r h v a slots different within long =
    let f = h.acked v a in
    let many : ring.w ≤ length f.0 + w.losses = f.2 in
    let spent = r.spent in
    let more = quorum_more ring.n ring.r ring.w ring.loss k.known.is_ring.quorum in
    let m = meet ring.n slots f.0 different f.1.different within f.1.within (omega arith) in
    (m.0, m.1, (f.1.firm m.0 m.2).0)

-- at every moment of every run
pub held_always : (ring : RingValue) (plan : List Planned) → Holds ring plan
    → Always ring plan (λ w. (v : ℕ) → is_acked w v ≡ true → MeetsEveryRead ring plan w v)
held_always ring plan k run w is v a =
    meets_reads ring plan k w (run_inv ring plan k run (opening_world ring) w (start_inv ring plan k.known.is_ring) is).reached
    (holding_always ring plan k run w is) v a
