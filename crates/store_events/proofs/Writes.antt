-- A store that writes a put is in the next world.
use Rattle.std.proofs.Common.{◌≡◌, inl, inr, ◌∙◌, ℕ, ◌<◌, Bool, true, List, [], length, refl, sym, ap, subst, arith, ltb-true, eqb-true}
use Rattle.std.specs.Prelude.{◌&&◌, ◌||◌, ◌==◌, nat_lt, Option, Some, None, Ok, slice_get}
use Rattle.std.proofs.lemmas.Bool.{and_parts}
use Rattle.ring_names.specs.declared.ids.NodeId.{NodeId}
use Rattle.ring_names.specs.declared.ids.Slot.{Slot}
use Rattle.ring_table.specs.Value.{RingValue}
use Rattle.ring_versions.specs.declared.version.Version.{Version}
use Rattle.store_parts.specs.Numbers.{at_bytes}
use Rattle.ring_store.specs.Nodes.{at_nodes}
use Rattle.ring_store.specs.Slots.{at_slot}
use Rattle.plan_text.specs.declared.step.Planned.{Planned}
use Rattle.plan_stage.specs.Clauses.{first_failing}
use Rattle.plan_runs.specs.declared.event.Event.{Event}
use Rattle.plan_runs.specs.declared.event.Event.TheVariants.{Write}
use Rattle.plan_runs.specs.declared.event.Reply.TheVariants as reply
use Rattle.plan_runs.specs.World.{PutRecord, World, stage_now, key_of_put, is_of_key}
use Rattle.plan_runs.specs.Versions.{put_slot}
use Rattle.plan_runs.specs.Guards.{guards, put_exists}
use Rattle.plan_runs.specs.Effects.{changed, effect}
use Rattle.plan_runs.specs.Answers.{answer, reply_to}
use Rattle.plan_runs.specs.Reached.{Reached}
use Rattle.plan_runs.proofs.Answered.{allowed}
use Rattle.plan_runs.proofs.Changed.{part_changed}
use Rattle.plan_runs.proofs.Passed.{all_met}
use Rattle.store_parts.specs.declared.puts.PutNow.{PutNow}
use Rattle.store_parts.specs.declared.slots.SlotNow.{SlotNow}
use Rattle.store_parts.specs.Puts.{with_ticket}
use Rattle.store_parts.specs.Slots.{slot_now}
use Rattle.store_parts.specs.Shows.{Shows, value_of}
use Rattle.store_parts.specs.Stored.{MergeAll, at_mirror, at_served}
use Rattle.store_parts.specs.Stored as stored
use Rattle.store_parts.proofs.StoredGrows.{served_more}
use Rattle.store_parts.specs.PutsMeet.{clock_in, clock_at, PutMeets}
use Rattle.store_parts.specs.SlotsMeet.{IsNow}
use Rattle.store_parts.proofs.PutsChanges.{puts_written}
use Rattle.store_parts.proofs.PutsTests.{both_puts}
use Rattle.store_parts.proofs.SlotsFit.{kept_is}
use Rattle.store_parts.proofs.StepsNow.{steps_stay}
use Rattle.store_parts.specs.Kept.{Kept, Tells}
use Rattle.store_parts.proofs.StoreInWorld.{reached_of}
use Rattle.store_events.proofs.TellsOnVersions.{comes, lasts, goes_on}
use Rattle.store_events.proofs.ShownBrought.{put_shows, served_shows, served_come}
use Rattle.store_events.proofs.PutAndSlot.{key_of}

-- the puts after one got a ticket of that generation
abbrev pub ticketed : List PutNow → ℕ → ℕ → ℕ → List PutNow
ticketed puts v i g = changed puts v (λ put. record put { tickets = with_ticket put.tickets i g })

-- a ticket leaves the clocks
pub ticket_clocks : (puts : List PutNow) (v i g u : ℕ) → clock_at (ticketed puts v i g) u ≡ clock_at puts u
ticket_clocks puts v i g u = part_changed (λ (put : PutNow). clock_in put.version) [] puts v (λ put. record put { tickets = with_ticket put.tickets i g }) (λ put. refl) u

-- what comes to a slot's nodes, by what is kept of the slot
pub served_is : (ring : RingValue) (plan : List Planned) (w : World) (slot : Slot) (x : SlotNow) (more : ℕ → Bool) (y : ℕ) (t : Slot) (v : ℕ) → IsNow ring plan w slot x
    → at_served ring plan w slot more y t v ≡ (at_mirror x.mirror slot more y t v || stored.at_node x.owner slot more y t v)
served_is ring plan w slot x more y t v now =
    ap (λ (o : NodeId). at_mirror (stage_now ring plan w slot).mirror slot more y t v || stored.at_node o slot more y t v) (sym now.owner)
    ∙ ap (λ (o : Option NodeId). at_mirror o slot more y t v || stored.at_node x.owner slot more y t v) (sym now.mirror)

-- the version of a put that is kept shows the put
pub kept_shows : (ring : RingValue) (plan : List Planned) (k : Kept) (w : World) (m : Tells ring plan k w) (v : ℕ) (put : PutNow) (key : List ℕ) → slice_get k.puts v ≡ Some put → slice_get k.keys put.key ≡ Some key
    → (bs : List ℕ) → Shows (clock_at k.puts) (value_of w) (at_bytes key put.version bs) (λ u. (u == v) && is_of_key w bs u)
kept_shows ring plan k w m v put key at named bs = elim (both_puts k.keys k.last k.puts w v m.puts) [
  | inl n ↦ absurd (let none = n.0 in cc)
  | inr s ↦ (
      let same : s.0 ≡ put = (let here = s.2 in cc) in
      let meets : PutMeets k.keys v put s.1 = subst (λ (p : PutNow). PutMeets k.keys v p s.1) same s.4 in
      let of : key_of_put w v ≡ key = (let is = key_of ring plan k w m v put at in cc) in
      let one : Version = record { put = v; clock = clock_in put.version; value = s.1.value } in
      let clock : clock_in put.version ≡ clock_at k.puts v = ap (λ (o : Option PutNow). elim o [ Some p ↦ clock_in p.version | None ↦ [] ]) (sym at) in
      let value : s.1.value ≡ value_of w v = ap (λ (o : Option PutRecord). elim o [ Some x ↦ x.value | None ↦ [] ]) (sym s.3) in
      subst (λ (vs : List Version). Shows (clock_at k.puts) (value_of w) (at_bytes key vs bs) (λ u. (u == v) && is_of_key w bs u)) (sym meets.version)
      (put_shows w (clock_at k.puts) v one key of refl clock value bs))
]

module _ (ring : RingValue) (plan : List Planned) (k : Kept) (w : World) (m : Tells ring plan k w) (v i : ℕ) (passes : first_failing (guards ring plan w (Write v i)) ≡ None) where
  pub write_exists : put_exists ring w v i ≡ true
  unfolding guards
  write_exists = (all_met (guards ring plan w (Write v i)) passes).0

  written_at : (put : PutNow) (key : List ℕ) (served : SlotNow) (new : ℕ → Slot → List ℕ → List Version) → slice_get k.puts v ≡ Some put → slice_get k.keys put.key ≡ Some key → slot_now k.rows (put_slot ring w v i) ≡ Some served
      → MergeAll k.stored (at_nodes served.owner served.mirror (at_slot (put_slot ring w v i) (at_bytes key put.version))) new
      → (answer ring plan w (Write v i) ≡ Ok (effect ring plan w (Write v i), reply.Ticket (put_slot ring w v i) served.generation))
      × Tells ring plan (record k { stored = new; puts = ticketed k.puts v i served.generation }) (effect ring plan w (Write v i))
  unfolding effect
  written_at put key served new at named kept merges =
      let e : Event = Write v i in
      let slot : Slot = put_slot ring w v i in
      let reached : Reached ring plan w = reached_of ring plan k w m in
      let now : IsNow ring plan w slot served = kept_is ring plan k.rows w slot served m.slots kept in
      let h = allowed ring plan w e passes in
      let known : v < length w.puts = ltb-true v (length w.puts) (and_parts (nat_lt v (length w.puts)) (nat_lt i ring.n) write_exists).0 in (
        h ∙ ap (λ (g : ℕ). Ok (effect ring plan w e, reply.Ticket slot g)) (sym now.generation),
        goes_on ring plan w e passes k m refl refl refl refl k.steps (ticketed k.puts v i served.generation) new k.hinted
            (steps_stay ring plan k.steps w e refl m.steps)
            (ticket_clocks k.puts v i served.generation)
            (puts_written ring plan w (effect ring plan w e) v i served.generation (reply_to ring plan w e) k.keys k.last k.puts reached h now.generation m.puts)
            (comes ring plan w e passes (clock_at k.puts) k.stored (at_nodes served.owner served.mirror (at_slot slot (at_bytes key put.version))) new w.stored
            (λ y t u. at_mirror served.mirror slot (λ z. z == v) y t u || stored.at_node served.owner slot (λ z. z == v) y t u) (effect ring plan w e).stored
            (λ y t u b. (reached.stored y t u b).0)
            (λ y t u b. (let same : u ≡ v = eqb-true u v (served_come served.owner served.mirror slot (λ z. z == v) y t u b) in omega arith))
            (λ y t u. served_more ring plan w slot (λ z. z == v) y t u ∙ ap (λ (b : Bool). b || w.stored y t u) (served_is ring plan w slot served (λ z. z == v) y t u now))
            m.stored (served_shows w (clock_at k.puts) served.owner served.mirror slot (at_bytes key put.version) (λ z. z == v) (kept_shows ring plan k w m v put key at named)) merges)
            (lasts ring plan w e passes (clock_at k.puts) k.hinted w.hinted (λ y t u b. (reached.hinted y t u b).0) m.hinted),
      )

  -- the slot's owner and its mirror have the put, and it has a ticket
  pub written : (put : PutNow) (key : List ℕ) (slot : Slot) (served : SlotNow) (new : ℕ → Slot → List ℕ → List Version) → slice_get k.puts v ≡ Some put → slice_get k.keys put.key ≡ Some key → slot ≡ put_slot ring w v i
      → slot_now k.rows slot ≡ Some served → MergeAll k.stored (at_nodes served.owner served.mirror (at_slot slot (at_bytes key put.version))) new
      → (u : World) × (answer ring plan w (Write v i) ≡ Ok (u, reply.Ticket slot served.generation)) × Tells ring plan (record k { stored = new; puts = ticketed k.puts v i served.generation }) u
  written put key slot served new at named is kept merges =
      let t = written_at put key served new at named (ap (λ (s : Slot). slot_now k.rows s) (sym is) ∙ kept)
      (subst (λ (s : Slot). MergeAll k.stored (at_nodes served.owner served.mirror (at_slot s (at_bytes key put.version))) new) is merges) in
      (effect ring plan w (Write v i), t.0 ∙ ap (λ (s : Slot). Ok (effect ring plan w (Write v i), reply.Ticket s served.generation)) (sym is), t.1)
