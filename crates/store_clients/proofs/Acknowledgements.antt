-- Acknowledgements of puts that are kept.
use Rattle.std.proofs.Common.{◌≡◌, inl, inr, ◌∙◌, ℕ, ◌<◌, Bool, true, false, not, List, [], ◌∷◌, length, refl, sym, ap, subst}
use Rattle.std.specs.Prelude.{◌==◌, nat_lt, nat_le, Option, Some, None, Ok, slice_get, option_map}
use Rattle.std.proofs.lemmas.Option.{slice_get_within}
use Rattle.std.proofs.Math.Path.{fun_ext}
use Rattle.std.proofs.lemmas.Bool.{and_from, le-ltb}
use Rattle.ring_names.specs.declared.ids.Slot.{Slot}
use Rattle.ring_names.specs.declared.refusal.Refusal.TheVariants.{UnknownNumber, AlreadyDone, StaleTickets}
use Rattle.ring_space.specs.Place.{place_of}
use Rattle.ring_space.specs.declared.found.Place.{Place}
use Rattle.ring_table.specs.Value.{RingValue}
use Rattle.ring_clock.specs.declared.entry.Entry.{Entry}
use Rattle.plan_text.specs.declared.step.Planned.{Planned}
use Rattle.plan_stage.specs.Clauses.{first_failing}
use Rattle.plan_runs.specs.declared.event.Event.TheVariants.{Ack}
use Rattle.plan_runs.specs.declared.event.Reply.TheVariants as reply
use Rattle.plan_runs.specs.World.{PutRecord, World, passing_below, generation, slot_at}
use Rattle.plan_runs.specs.Versions.{put_slot}
use Rattle.plan_runs.specs.Guards.{guards, ack_guards}
use Rattle.plan_runs.specs.Effects.{changed, effect}
use Rattle.plan_runs.specs.Answers.{answer}
use Rattle.plan_runs.proofs.Answered.{allowed}
use Rattle.plan_runs.proofs.Changed.{part_changed}
use Rattle.store_parts.specs.Stored.{ShowAll}
use Rattle.store_parts.specs.declared.puts.PutNow.{PutNow}
use Rattle.store_parts.specs.declared.slots.SlotNow.{SlotNow}
use Rattle.store_parts.specs.Puts.{ticket_at}
use Rattle.store_parts.specs.GetsMeet.{GetsMeet}
use Rattle.store_parts.specs.PutsMeet.{clock_in, clock_at, PutMeets}
use Rattle.store_parts.specs.PutsTests.{is_acked_at, is_current_at, current_count}
use Rattle.store_parts.proofs.GetsFrames.{gets_stay}
use Rattle.store_parts.proofs.GetsGuards.{ack_tested}
use Rattle.store_parts.proofs.PutsChanges.{puts_acked}
use Rattle.store_parts.proofs.PutsTests.{both_puts, same_passing}
use Rattle.store_parts.specs.Kept.{Kept, Tells}
use Rattle.store_parts.proofs.StoreInWorld.{reached_of, slot_there}
use Rattle.store_clients.specs.Acks.{generation_in, is_current_in}
use Rattle.store_clients.proofs.TellsOnClients.{stored_on, hinted_on, tells_next}
use Rattle.store_clients.proofs.NumberTests.{is_less, none_there}

-- a put that is acknowledged
pub acked_on : (ring : RingValue) (plan : List Planned) (k : Kept) (w : World) (v : ℕ) → Tells ring plan k w → first_failing (guards ring plan w (Ack v)) ≡ None
    → (u : World) × (answer ring plan w (Ack v) ≡ Ok (u, reply.Plain)) × Tells ring plan (record k { puts = changed k.puts v (λ put. record put { acked = true }) }) u
acked_on ring plan k w v m p =
    let u = effect ring plan w (Ack v) in
    let h : answer ring plan w (Ack v) ≡ Ok (u, reply.Plain) = allowed ring plan w (Ack v) p in
    let new = changed k.puts v (λ (put : PutNow). record put { acked = true }) in
    let same : clock_at k.puts ≡ clock_at new = fun_ext (λ n. sym (part_changed (λ (put : PutNow). clock_in put.version) [] k.puts v (λ put. record put { acked = true }) (λ put. refl) n)) in (
      u,
      h,
      tells_next ring plan k w u (Ack v) reply.Plain m refl h k.keys k.last new k.gets m.numbered m.placed m.behind
          (puts_acked ring plan w u v reply.Plain k.keys k.last k.puts (reached_of ring plan k w m) h m.puts)
          (subst (λ (clock : ℕ → List Entry). GetsMeet ring clock k.keys k.gets u) same (gets_stay ring plan w u (Ack v) reply.Plain (clock_at k.puts) k.keys k.gets (reached_of ring plan k w m) h refl m.gets))
          (subst (λ (clock : ℕ → List Entry). ShowAll u clock k.stored u.stored) same (stored_on ring plan k w u (Ack v) reply.Plain m refl h))
          (subst (λ (clock : ℕ → List Entry). ShowAll u clock k.hinted u.hinted) same (hinted_on ring plan k w u (Ack v) reply.Plain m refl h)),
    )

module _ (ring : RingValue) (plan : List Planned) (k : Kept) (w : World) (m : Tells ring plan k w) where
  -- a put that is not there is not acknowledged
  pub no_put : (v : ℕ) → slice_get k.puts v ≡ None → Some UnknownNumber ≡ first_failing (guards ring plan w (Ack v))
  unfolding guards
  no_put v none =
      let l = none_there k.puts v none in
      let less = le-ltb v (length k.puts) l in
      let e = m.puts.each in
      let f : nat_lt v (length w.puts) ≡ false = (let g = ap (λ (n : ℕ). nat_lt v n) e in cc) in
      rw f refl

  -- the key of a put that is there has a number
  pub put_key_there : (v : ℕ) (put : PutNow) → slice_get k.puts v ≡ Some put → put.key < length k.keys
  put_key_there v put is = elim (both_puts k.keys k.last k.puts w v m.puts) [
    | inl none ↦ absurd (let f = none.0 in cc)
    | inr s ↦ (
        let same : s.0 ≡ put = (let f = s.2 in cc) in
        subst (λ (x : PutNow). x.key < length k.keys) same (slice_get_within k.keys s.0.key s.1.key s.4.key))
  ]

  -- what stands against the acknowledgement of one that is there
  pub put_tested : (v current : ℕ) (put : PutNow) (place : Place) → slice_get k.puts v ≡ Some put → option_map (place_of ring.q) (slice_get k.keys put.key) ≡ Some place
      → current ≡ length (passing_below ring.n (is_current_in k.rows put place.partition))
      → first_failing ((not put.acked, AlreadyDone) ∷ (nat_le ring.w current, StaleTickets current) ∷ []) ≡ first_failing (guards ring plan w (Ack v))
  unfolding guards
  put_tested v current put place is lies counted = elim (both_puts k.keys k.last k.puts w v m.puts) [
    | inl none ↦ absurd (let f = none.0 in cc)
    | inr s ↦ by s.0 s.1 s.2 s.3 s.4 (let f = s.2 in cc)
  ]
    where
      by : (y : PutNow) (x : PutRecord) → slice_get k.puts v ≡ Some y → slice_get w.puts v ≡ Some x → PutMeets k.keys v y x → y ≡ put
          → first_failing ((not put.acked, AlreadyDone) ∷ (nat_le ring.w current, StaleTickets current) ∷ []) ≡ first_failing (ack_guards ring plan w v)
      by y x here there meets same =
          let key : slice_get k.keys put.key ≡ Some x.key = subst (λ (z : PutNow). slice_get k.keys z.key ≡ Some x.key) same meets.key in
          let at : place_of ring.q x.key ≡ place = (let f = ap (option_map (place_of ring.q)) key in cc) in
          let partition : (place_of ring.q x.key).partition ≡ place.partition = ap (λ (z : Place). z.partition) at in
          let slot : (i : ℕ) → put_slot ring w v i ≡ slot_at place.partition i = λ i. (
          ap (λ (o : Option PutRecord). slot_at (place_of ring.q (elim o as (λ _. List ℕ) [ Some z ↦ z.key | None ↦ [] ])).partition i) there
          ∙ ap (λ (p : ℕ). slot_at p i) partition) in
          let within : place.partition < ring.q = subst (λ (n : ℕ). n < ring.q) partition (m.placed put.key x.key key) in
          let generations : (i : ℕ) → i < ring.n → generation_in k.rows (slot_at place.partition i) ≡ generation plan w (put_slot ring w v i) = λ i l. (
          let s = slot_there ring plan k w m (slot_at place.partition i) (and_from (nat_lt place.partition ring.q) (nat_lt i ring.n) (is_less place.partition ring.q within) (is_less i ring.n l)) in
          ap (λ (o : Option SlotNow). elim o as (λ _. ℕ) [ Some z ↦ z.generation | None ↦ 0 ]) s.1 ∙ s.2.generation ∙ ap (λ (t : Slot). generation plan w t) (sym (slot i))) in
          let count : current_count k.puts ring.n (λ i. generation_in k.rows (slot_at place.partition i)) v ≡ current = (
          ap (λ (xs : List ℕ). length xs) (same_passing ring.n (λ i. is_current_at k.puts v i (generation_in k.rows (slot_at place.partition i))) (is_current_in k.rows put place.partition)
          (λ i l. ap (λ (o : Option PutNow). elim (elim o as (λ _. Option ℕ) [ Some z ↦ ticket_at z i | None ↦ None ]) as (λ _. Bool) [ Some g ↦ g == generation_in k.rows (slot_at place.partition i) | None ↦ false ]) is))
          ∙ sym counted) in
          let acked : is_acked_at k.puts v ≡ put.acked = ap (λ (o : Option PutNow). elim o as (λ _. Bool) [ Some z ↦ z.acked | None ↦ false ]) is in
          let less : nat_lt v (length k.puts) ≡ true = is_less v (length k.puts) (slice_get_within k.puts v put is) in
          sym (ap first_failing (ack_tested ring plan k.keys k.last k.puts w v (λ i. generation_in k.rows (slot_at place.partition i)) m.puts generations)
          ∙ rw (less, acked, count) refl)
