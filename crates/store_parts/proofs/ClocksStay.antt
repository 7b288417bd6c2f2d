-- What each event leaves of the clocks of a world's puts.
use Rattle.std.proofs.Common.{◌≡◌, inl, inr, ◌∙◌, ℕ, ◌+◌, ◌<◌, Bool, true, false, cond, List, [], ◌∷◌, length, refl, ap, subst, arith, eq-eqb}
use Rattle.std.specs.Prelude.{◌==◌, Option, Some, None, Ok, slice_get}
use Rattle.std.specs.Str.{bytes_eq}
use Rattle.std.proofs.lemmas.Slice.Eq.{bytes_eq-Decides}
use Rattle.std.proofs.lemmas.Bool.{or_cases}
use Rattle.ring_names.specs.Lists.{has}
use Rattle.ring_names.specs.declared.ids.WriterId.{WriterId}
use Rattle.ring_table.specs.Value.{RingValue}
use Rattle.plan_text.specs.declared.step.Planned.{Planned}
use Rattle.ring_clock.specs.declared.entry.Entry.{Entry}
use Rattle.ring_clock.specs.Built.{IsNext, with_clock}
use Rattle.plan_runs.specs.declared.event.Event.{Event}
use Rattle.plan_runs.specs.declared.event.Event.TheVariants.{StartPut}
use Rattle.plan_runs.specs.declared.event.Reply.{Reply}
use Rattle.plan_runs.specs.World.{GetRecord, World, opening_world, key_of_put, key_of_get, is_get_of}
use Rattle.plan_runs.specs.Succession.{replied, some_replied}
use Rattle.plan_runs.specs.Guards.{guards}
use Rattle.plan_runs.specs.Effects.{effect}
use Rattle.plan_runs.specs.Answers.{answer}
use Rattle.plan_runs.specs.Reached.{Reached}
use Rattle.plan_runs.proofs.Answered.{answered}
use Rattle.plan_runs.specs.Leaves.{starts_put}
use Rattle.plan_runs.proofs.Frames.{puts_many}
use Rattle.plan_runs.proofs.Lasting.{event_extends, names_ended}
use Rattle.plan_runs.proofs.Passed.{AllMet, all_met, among}
use Rattle.store_parts.specs.Clocks.{AreClocksOf, IsLastOf, IsInputOf}
use Rattle.store_parts.proofs.ClocksGrow.{stays, put_clocks}
use Rattle.std.proofs.lemmas.Bool.{or_right}

pub opening_clocks : (ring : RingValue) (clock : ℕ → List Entry) → AreClocksOf (opening_world ring) clock
opening_clocks ring clock k l = absurd (omega arith)

-- ---- events that start no put

pub clocks_stay : (ring : RingValue) (plan : List Planned) (w u : World) (e : Event) (r : Reply) (clock : ℕ → List Entry) → Reached ring plan w → AreClocksOf w clock → answer ring plan w e ≡ Ok (u, r) → starts_put e ≡ false → AreClocksOf u clock
clocks_stay ring plan w u e r clock reached made h none =
    let a = answered ring plan w u e r h in
    let x = event_extends ring plan w e (all_met (guards ring plan w e) a.0) in
    subst (λ (z : World). AreClocksOf z clock) a.1 (λ k l. stays w (effect ring plan w e) clock clock x (names_ended ring plan w reached) (λ v m. refl) made k (let many = puts_many ring plan w e ∙ ap (λ (b : Bool). length w.puts + cond b 1 0) none in omega arith))

-- ---- an event that starts one

-- a put that some reply had is in one of the gets' replies
pub some_reply : (gets : List GetRecord) (gs : List ℕ) (v : ℕ) → some_replied gets gs v ≡ true → (g : ℕ) × (has g gs ≡ true) × (replied gets g v ≡ true)
some_reply gets [] v h = absurd cc
some_reply gets (g ∷ gs) v h = elim (or_cases (replied gets g v) (some_replied gets gs v) h) [
  | inl e ↦ (g, rw (eq-eqb g g refl) refl, e)
  | inr e ↦ (let r = some_reply gets gs v e in (r.0, or_right (r.0 == g) (has r.0 gs) r.1, r.2))
]

get_key : (key : List ℕ) (o : Option GetRecord) → (elim o [ Some x ↦ bytes_eq x.key key | None ↦ false ]) ≡ true → (elim o [ Some x ↦ x.key | None ↦ [] ]) ≡ key
get_key key None h = absurd cc
get_key key (Some x) h = (bytes_eq-Decides x.key key).0 h

-- what gets of the key had in their replies are puts of the key
fits : (ring : RingValue) (plan : List Planned) (w : World) (key seen : List ℕ) → Reached ring plan w → ((g : ℕ) → has g seen ≡ true → is_get_of w key g ≡ true) → (v : ℕ) → some_replied w.gets seen v ≡ true → (v < length w.puts) × (key_of_put w v ≡ key)
fits ring plan w key seen reached of v h =
    let g = some_reply w.gets seen v h in
    let r = reached.replied g.0 v g.2 in
    let k : key_of_get w g.0 ≡ key = get_key key (slice_get w.gets g.0) (of g.0 g.1) in
    (r.0, (bytes_eq-Decides (key_of_put w v) (key_of_get w g.0)).0 r.1 ∙ k)

of_start : (ring : RingValue) (plan : List Planned) (w : World) (writer : WriterId) (key value seen : List ℕ) (last : Option ℕ) (clock : ℕ → List Entry) (c : List Entry) → AllMet (guards ring plan w (StartPut writer key value seen))
    → Reached ring plan w → AreClocksOf w clock → IsLastOf w writer.0 key last → IsNext clock (IsInputOf w seen last) writer.0 c → AreClocksOf (effect ring plan w (StartPut writer key value seen)) (with_clock clock (length w.puts) c)
unfolding guards effect
of_start ring plan w writer key value seen last clock c met reached made lasts next =
    put_clocks w (record { writer = writer.0; key = key; value = value; seen = seen; ticket = λ i. None; acked = false }) last clock made lasts
    (event_extends ring plan w (StartPut writer key value seen) met)
    (fits ring plan w key seen reached (λ g e. among (is_get_of w key) g seen met.0 e))
    c (names_ended ring plan w reached) next

pub clocks_grow : (ring : RingValue) (plan : List Planned) (w u : World) (writer : WriterId) (key value seen : List ℕ) (r : Reply) (last : Option ℕ) (clock : ℕ → List Entry) (c : List Entry) → Reached ring plan w → AreClocksOf w clock
    → IsLastOf w writer.0 key last → IsNext clock (IsInputOf w seen last) writer.0 c → answer ring plan w (StartPut writer key value seen) ≡ Ok (u, r) → AreClocksOf u (with_clock clock (length w.puts) c)
clocks_grow ring plan w u writer key value seen r last clock c reached made lasts next h =
    let a = answered ring plan w u (StartPut writer key value seen) r h in
    subst (λ (z : World). AreClocksOf z (with_clock clock (length w.puts) c)) a.1
    (of_start ring plan w writer key value seen last clock c (all_met (guards ring plan w (StartPut writer key value seen)) a.0) reached made lasts next)
