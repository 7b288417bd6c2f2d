-- A store that keeps a put as a hint is in the next world.
use Rattle.std.proofs.Common.{◌≡◌, ◌∙◌, ℕ, ◌<◌, true, cond, List, [], length, refl, sym, ap, subst, arith, ltb-true, eqb-true}
use Rattle.std.specs.Prelude.{◌==◌, nat_lt, Some, None, Ok, slice_get}
use Rattle.std.proofs.lemmas.Bool.{and_parts}
use Rattle.ring_names.specs.declared.ids.NodeId.{NodeId}
use Rattle.ring_names.specs.declared.ids.Slot.{Slot}
use Rattle.ring_table.specs.Value.{RingValue}
use Rattle.ring_versions.specs.declared.version.Version.{Version}
use Rattle.ring_versions.specs.Versions.{IsMerge}
use Rattle.store_parts.specs.Numbers.{at_bytes}
use Rattle.ring_hints.specs.Views.{is_of, pair_of}
use Rattle.plan_text.specs.declared.step.Planned.{Planned}
use Rattle.plan_stage.specs.Clauses.{first_failing}
use Rattle.plan_runs.specs.declared.event.Event.{Event}
use Rattle.plan_runs.specs.declared.event.Event.TheVariants.{Hint}
use Rattle.plan_runs.specs.declared.event.Reply.TheVariants as reply
use Rattle.plan_runs.specs.World.{World}
use Rattle.plan_runs.specs.Versions.{put_slot}
use Rattle.plan_runs.specs.Guards.{guards, put_exists}
use Rattle.plan_runs.specs.Effects.{effect}
use Rattle.plan_runs.specs.Answers.{answer, reply_to}
use Rattle.plan_runs.specs.Reached.{Reached}
use Rattle.plan_runs.proofs.Answered.{allowed}
use Rattle.plan_runs.proofs.Passed.{all_met}
use Rattle.store_parts.specs.declared.puts.PutNow.{PutNow}
use Rattle.store_parts.specs.declared.slots.SlotNow.{SlotNow}
use Rattle.store_parts.specs.Slots.{slot_now}
use Rattle.store_parts.specs.Stored as stored
use Rattle.store_parts.specs.PutsMeet.{clock_at}
use Rattle.store_parts.specs.SlotsMeet.{IsNow}
use Rattle.store_parts.proofs.PutsChanges.{puts_hinted}
use Rattle.store_parts.proofs.SlotsFit.{kept_is}
use Rattle.store_parts.proofs.StepsNow.{steps_stay}
use Rattle.store_parts.specs.Kept.{Kept, Tells}
use Rattle.store_parts.proofs.StoreInWorld.{reached_of}
use Rattle.store_events.proofs.TellsOnVersions.{comes, lasts, goes_on}
use Rattle.store_events.proofs.ShownBrought.{pair_shows, node_come}
use Rattle.store_events.proofs.Writes.{ticketed, ticket_clocks, kept_shows}

module _ (ring : RingValue) (plan : List Planned) (k : Kept) (w : World) (m : Tells ring plan k w) (v i : ℕ) (x : NodeId) (passes : first_failing (guards ring plan w (Hint v i x)) ≡ None) where
  pub hint_exists : put_exists ring w v i ≡ true
  unfolding guards
  hint_exists = (all_met (guards ring plan w (Hint v i x)) passes).0

  hinted_at : (put : PutNow) (key : List ℕ) (served : SlotNow) (new : ℕ → Slot → List ℕ → List Version) → slice_get k.puts v ≡ Some put → slice_get k.keys put.key ≡ Some key → slot_now k.rows (put_slot ring w v i) ≡ Some served
      → ((y : ℕ) (t : Slot) (bs : List ℕ) → IsMerge (k.hinted y t bs) (cond (is_of (pair_of x.0 (put_slot ring w v i)) y t) (at_bytes key put.version bs) []) (new y t bs))
      → (answer ring plan w (Hint v i x) ≡ Ok (effect ring plan w (Hint v i x), reply.Ticket (put_slot ring w v i) served.generation))
      × Tells ring plan (record k { hinted = new; puts = ticketed k.puts v i served.generation }) (effect ring plan w (Hint v i x))
  unfolding effect
  hinted_at put key served new at named kept merges =
      let e : Event = Hint v i x in
      let slot : Slot = put_slot ring w v i in
      let reached : Reached ring plan w = reached_of ring plan k w m in
      let now : IsNow ring plan w slot served = kept_is ring plan k.rows w slot served m.slots kept in
      let h = allowed ring plan w e passes in
      let known : v < length w.puts = ltb-true v (length w.puts) (and_parts (nat_lt v (length w.puts)) (nat_lt i ring.n) hint_exists).0 in (
        h ∙ ap (λ (g : ℕ). Ok (effect ring plan w e, reply.Ticket slot g)) (sym now.generation),
        goes_on ring plan w e passes k m refl refl refl refl k.steps (ticketed k.puts v i served.generation) k.stored new
            (steps_stay ring plan k.steps w e refl m.steps)
            (ticket_clocks k.puts v i served.generation)
            (puts_hinted ring plan w (effect ring plan w e) v i x served.generation (reply_to ring plan w e) k.keys k.last k.puts reached h now.generation m.puts)
            (lasts ring plan w e passes (clock_at k.puts) k.stored w.stored (λ y t u b. (reached.stored y t u b).0) m.stored)
            (comes ring plan w e passes (clock_at k.puts) k.hinted (λ y t bs. cond (is_of (pair_of x.0 slot) y t) (at_bytes key put.version bs) []) new w.hinted
            (stored.at_node x slot (λ z. z == v)) (effect ring plan w e).hinted
            (λ y t u b. (reached.hinted y t u b).0)
            (λ y t u b. (let same : u ≡ v = eqb-true u v (node_come x slot (λ z. z == v) y t u b) in omega arith))
            (λ y t u. refl)
            m.hinted (pair_shows w (clock_at k.puts) x slot (at_bytes key put.version) (λ z. z == v) (kept_shows ring plan k w m v put key at named)) merges),
      )

  -- the node keeps the put, and it has a ticket
  pub hinted : (put : PutNow) (key : List ℕ) (slot : Slot) (served : SlotNow) (new : ℕ → Slot → List ℕ → List Version) → slice_get k.puts v ≡ Some put → slice_get k.keys put.key ≡ Some key → slot ≡ put_slot ring w v i
      → slot_now k.rows slot ≡ Some served → ((y : ℕ) (t : Slot) (bs : List ℕ) → IsMerge (k.hinted y t bs) (cond (is_of (pair_of x.0 slot) y t) (at_bytes key put.version bs) []) (new y t bs))
      → (u : World) × (answer ring plan w (Hint v i x) ≡ Ok (u, reply.Ticket slot served.generation)) × Tells ring plan (record k { hinted = new; puts = ticketed k.puts v i served.generation }) u
  hinted put key slot served new at named is kept merges =
      let t = hinted_at put key served new at named (ap (λ (s : Slot). slot_now k.rows s) (sym is) ∙ kept)
      (subst (λ (s : Slot). (y : ℕ) (t : Slot) (bs : List ℕ) → IsMerge (k.hinted y t bs) (cond (is_of (pair_of x.0 s) y t) (at_bytes key put.version bs) []) (new y t bs)) is merges) in
      (effect ring plan w (Hint v i x), t.0 ∙ ap (λ (s : Slot). Ok (effect ring plan w (Hint v i x), reply.Ticket s served.generation)) (sym is), t.1)
