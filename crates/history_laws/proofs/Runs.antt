-- The parts of a run are runs.
use Rattle.std.proofs.Common.{sym, ◌≡◌, ◌∙◌, ℕ, Bool, true, false, cond, List, [], ◌∷◌, refl, ap, subst}
use Rattle.std.specs.Prelude.{Ok, Some, None}
use Rattle.ring_table.specs.Value.{RingValue}
use Rattle.plan_text.specs.declared.step.Planned.{Planned}
use Rattle.plan_stage.specs.Clauses.{first_failing, Guard}
use Rattle.plan_runs.specs.declared.event.Entry.{Entry}
use Rattle.plan_runs.specs.World.{World, opening_world}
use Rattle.plan_runs.specs.Reached.{Reached}
use Rattle.plan_runs.specs.Guards.{guards}
use Rattle.plan_runs.specs.Effects.{effect}
use Rattle.plan_runs.specs.Answers.{reply_to}
use Rattle.plan_runs.specs.Runs.{Leads, IsRun}
use Rattle.plan_runs.proofs.Answered.{answered, allowed}
use Rattle.plan_runs.proofs.Passed.{AllMet, all_met}
use Rattle.plan_runs.proofs.Reached.{event_reached, start_reached}
use Rattle.history_laws.specs.Parts.{is_kept, puts_after, gets_after, event_in, reply_in, with_entry, part_after, or_none, part_of, all_puts, all_gets, TellAlike}
use Rattle.history_laws.proofs.Follows.{Follows, same_acked}
use Rattle.history_laws.proofs.Successions.{held_same}
use Rattle.history_laws.proofs.Steps.{event_named, event_follows, event_passes, event_met, event_answered}

pub none_failing : (cs : List Guard) → AllMet cs → first_failing cs ≡ None
none_failing [] m = refl
none_failing (c ∷ cs) m = rw m.0 (none_failing cs m.1)

pub opening_follows : (ring : RingValue) (is_in : ℕ → Bool) → Follows ring is_in [] [] (opening_world ring) (opening_world ring)
opening_follows ring is_in = record { done = refl; is_open = refl; marked = refl; up = refl; puts = tt; gets = tt; stored = λ x s v h. refl; hinted = λ x s v h. refl; losses = refl; lost = λ s h. refl }

pub part_leads : (ring : RingValue) (plan : List Planned) (is_in : ℕ → Bool) (entries : List Entry) (ps gs : List Bool) (w u v : World) → Reached ring plan w → Reached ring plan u → Follows ring is_in ps gs w u
    → Leads ring plan w entries v → (z : World) × Leads ring plan u (part_after ring is_in ps gs entries) z × Follows ring is_in (all_puts ring is_in ps entries) (all_gets ring is_in gs entries) v z
part_leads ring plan is_in [] ps gs w u v iw iu r l = (u, refl, subst (λ z. Follows ring is_in ps gs z u) (sym l) r)
part_leads ring plan is_in (x ∷ xs) ps gs w u v iw iu r l = by (is_kept ring is_in ps gs x.event) refl
    (λ y iy s. part_leads ring plan is_in xs (puts_after ring is_in ps x.event) (gets_after ring is_in gs x.event) l.0 y v jw iy s l.2)
  where
    a : (first_failing (guards ring plan w x.event) ≡ None) × (effect ring plan w x.event ≡ l.0) × (reply_to ring plan w x.event ≡ x.reply)
    a = answered ring plan w l.0 x.event x.reply l.1

    met : AllMet (guards ring plan w x.event)
    met = all_met (guards ring plan w x.event) a.0

    jw : Reached ring plan l.0
    jw = subst (λ z. Reached ring plan z) a.1 (event_reached ring plan w iw x.event met)

    later : List Entry
    later = part_after ring is_in (puts_after ring is_in ps x.event) (gets_after ring is_in gs x.event) xs

    entry : Entry
    entry = record { event = event_in ps gs x.event; reply = reply_in (puts_after ring is_in ps x.event) (gets_after ring is_in gs x.event) x.reply }

    Ends : World → Type 0
    Ends z = Follows ring is_in (all_puts ring is_in (puts_after ring is_in ps x.event) xs) (all_gets ring is_in (gets_after ring is_in gs x.event) xs) v z

    by : (b : Bool) → is_kept ring is_in ps gs x.event ≡ b
        → ((y : World) → Reached ring plan y → Follows ring is_in (puts_after ring is_in ps x.event) (gets_after ring is_in gs x.event) l.0 y → (z : World) × Leads ring plan y later z × Ends z)
        → (z : World) × Leads ring plan u (with_entry (cond b (Some entry) None) later) z × Ends z
    by true k rest =
        let n = event_named ring plan is_in ps gs w u x.event r met k in
        let m = event_met ring plan is_in ps gs w u x.event iw r n met in
        let e : reply_to ring plan u entry.event ≡ entry.reply = event_answered ring plan is_in ps gs w u x.event r n ∙ ap (reply_in (puts_after ring is_in ps x.event) (gets_after ring is_in gs x.event)) a.2 in
        let y : World = effect ring plan u entry.event in
        let f = event_follows ring plan is_in ps gs w u x.event iw iu r met n in
        let g = rest y (event_reached ring plan u iu entry.event m) (subst (λ z. Follows ring is_in (puts_after ring is_in ps x.event) (gets_after ring is_in gs x.event) z y) a.1 f) in
        (g.0, (y, allowed ring plan u entry.event (none_failing (guards ring plan u entry.event) m) ∙ ap (λ q. Ok (y, q)) e, g.1), g.2)
    by false k rest = rest u iu (subst (λ z. Follows ring is_in (puts_after ring is_in ps x.event) (gets_after ring is_in gs x.event) z u) a.1 (event_passes ring plan is_in ps gs w u x.event iw iu r k))

pub parts_end : (ring : RingValue) (plan : List Planned) (entries : List Entry) (is_in : ℕ → Bool) (w : World) → IsRun ring plan entries w
    → (u : World) × IsRun ring plan (part_of ring is_in entries) u × TellAlike ring plan (all_puts ring (or_none ring is_in) [] entries) w u
parts_end ring plan entries is_in w l =
    let g = part_leads ring plan (or_none ring is_in) entries [] [] (opening_world ring) (opening_world ring) w (start_reached ring plan) (start_reached ring plan) (opening_follows ring (or_none ring is_in)) l in
    let ps = all_puts ring (or_none ring is_in) [] entries in
    let gs = all_gets ring (or_none ring is_in) [] entries in
    (g.0, g.1, λ v h. (same_acked ring (or_none ring is_in) ps gs w g.0 v g.2 h, λ s. held_same ring plan (or_none ring is_in) ps gs w g.0 s v g.2 h))

pub parts_run : (ring : RingValue) (plan : List Planned) (entries : List Entry) (w : World) (is_in : ℕ → Bool) → IsRun ring plan entries w → (u : World) × IsRun ring plan (part_of ring is_in entries) u
parts_run ring plan entries w is_in l = (let g = parts_end ring plan entries is_in w l in (g.0, g.1))
