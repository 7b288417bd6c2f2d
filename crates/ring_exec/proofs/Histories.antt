-- What a history is after an event, and whose refusal is not that it is full.
use Rattle.std.proofs.Common.{◌≡◌, ◌∙◌, ◌<◌, ℕ, List, [], ◌∷◌, ◌++◌, refl, sym, subst, arith}
use Rattle.std.proofs.Props.{props}
use Rattle.std.proofs.Math.Logic.{∥∥₁_map}
use Rattle.std.specs.Prelude.{◌≢◌, ◌↔◌, Result, Ok, Err, IfErr}
use Rattle.ring_names.specs.declared.refusal.Refusal.{Refusal}
use Rattle.ring_names.specs.declared.refusal.Refusal.TheVariants.{HistoryFull}
use Rattle.ring_table.specs.Value.{RingValue}
use Rattle.plan_text.specs.declared.step.Planned.{Planned}
use Rattle.plan_runs.specs.declared.event.Entry.{Entry}
use Rattle.plan_runs.specs.declared.event.Event.{Event}
use Rattle.plan_runs.specs.declared.event.Reply.{Reply}
use Rattle.plan_runs.specs.Answers.{answer}
use Rattle.plan_runs.specs.World.{opening_world}
use Rattle.plan_runs.proofs.Answered.{first_refused}
use Rattle.plan_runs.proofs.Split.{joined}
use Rattle.ring_core.proofs.StoreInWorld.{holds}
use Rattle.ring_core.specs.declared.world.World.{World}
use Rattle.ring_core.specs.World.{ring_of, plan_of, put_count, get_count, Meets, Answers, Refuses, Stays}
use Rattle.ring_core.proofs.GuardRefusals.{never_full}
use Rattle.ring_core.specs.Replays.{Replays}
use Rattle.ring_board.specs.Entries.{entry}

-- the event with its reply stands last
pub replays_on : (ring : RingValue) (plan : List Planned) (old new : World) (history : List Entry) (e : Event) (r : Reply) → ring_of old ≡ ring → plan_of old ≡ plan
    → Answers old e r new → Replays ring plan old history → Replays ring plan new (history ++ entry e r ∷ [])
replays_on ring plan old new history e r of_ring of_plan answers replays = ∥∥₁_map replays (λ x. (
    let a = answers x.0 x.1 in
    let here : answer ring (plan_of old) x.0 e ≡ Ok (a.0, r) = subst (λ (g : RingValue). answer g (plan_of old) x.0 e ≡ Ok (a.0, r)) of_ring a.1 in
    let there : answer ring plan x.0 e ≡ Ok (a.0, r) = subst (λ (p : List Planned). answer ring p x.0 e ≡ Ok (a.0, r)) of_plan here in
    (a.0, a.2, joined ring plan (opening_world ring) x.0 a.0 history (entry e r ∷ []) x.2 (a.0, there, refl))))

-- nothing has happened
pub replays_still : (ring : RingValue) (plan : List Planned) (old new : World) (history : List Entry) → Stays old new → Replays ring plan old history → Replays ring plan new history
replays_still ring plan old new history stays replays = ∥∥₁_map replays (λ x. (x.0, stays x.0 x.1, x.2))

-- before the first event
pub replays_none : (ring : RingValue) (plan : List Planned) (a : World) → Meets a (opening_world ring) → Replays ring plan a []
replays_none ring plan a m = ∣ (opening_world ring, m, refl) ∣₁

-- a store refuses no event because a history is full
pub never_full_there : (a : World) (e : Event) (refusal : Refusal) → Refuses a e refusal → refusal ≢ HistoryFull
never_full_there a e refusal refuses =
    holds a.parts a.sound (hlevel props) (λ w m. never_full (ring_of a) (plan_of a) w e refusal (first_refused (ring_of a) (plan_of a) w e refusal (refuses w m)))

-- so if an event is refused there, the history is not full
pub full_alone : {X : Type 0} (result : Result X Refusal) (refusal : Refusal) (n : ℕ) → result ≡ Err refusal → n < 1000000 → refusal ≢ HistoryFull
    → IfErr result (λ e. (e ≡ HistoryFull) ↔ (n ≡ 1000000))
full_alone result refusal n is room other = subst (λ o. IfErr o (λ e. (e ≡ HistoryFull) ↔ (n ≡ 1000000))) (sym is) ((λ same. absurd (other same)), (λ full. absurd (omega arith)))

-- where nothing has happened there are as many puts and gets
pub puts_still : (old new : World) → Stays old new → put_count new ≡ put_count old
puts_still old new stays = holds old.parts old.sound (hlevel props) (λ w m. (stays w m).puts.each ∙ sym m.puts.each)

pub gets_still : (old new : World) → Stays old new → get_count new ≡ get_count old
gets_still old new stays = holds old.parts old.sound (hlevel props) (λ w m. (stays w m).gets.each ∙ sym m.gets.each)
