-- Puts that are kept stay those of the world when one gets a ticket or is acknowledged.
use Rattle.std.proofs.Common.{◌≡◌, inl, inr, ◌∙◌, ℕ, true, cond, List, [], length, refl, sym, ap, subst}
use Rattle.std.specs.Prelude.{◌==◌, Option, Some, Ok, slice_get}
use Rattle.ring_names.specs.declared.ids.NodeId.{NodeId}
use Rattle.ring_table.specs.Value.{RingValue}
use Rattle.ring_clock.specs.declared.entry.Entry.{Entry}
use Rattle.plan_text.specs.declared.step.Planned.{Planned}
use Rattle.plan_runs.specs.declared.event.Event.TheVariants.{Write, Hint, Ack}
use Rattle.plan_runs.specs.declared.event.Reply.{Reply}
use Rattle.plan_runs.specs.World.{PutRecord, World, generation, key_of_put, writer_of}
use Rattle.plan_runs.specs.Versions.{put_slot}
use Rattle.plan_runs.specs.Effects.{changed, with_value, effect}
use Rattle.plan_runs.specs.Answers.{answer}
use Rattle.plan_runs.specs.Reached.{Reached}
use Rattle.plan_runs.proofs.Answered.{answered}
use Rattle.plan_runs.proofs.Changed.{length_changed, part_changed}
use Rattle.store_parts.specs.Clocks.{AreClocksOf}
use Rattle.store_parts.proofs.ClocksStay.{clocks_stay}
use Rattle.store_parts.proofs.ClocksGrow.{next_same}
use Rattle.store_parts.specs.declared.puts.PutNow.{PutNow}
use Rattle.store_parts.specs.Puts.{with_ticket}
use Rattle.store_parts.proofs.Ticketing.{ticket_read}
use Rattle.plan_runs.specs.Succession.{is_direct}
use Rattle.store_parts.specs.PutsMeet.{clock_in, clock_at, PutMeets, PutsMeet}
use Rattle.store_parts.proofs.PutsLists.{changed_at}
use Rattle.store_parts.proofs.PutsFrames.{last_stays}

-- clocks that are the same are as well those of the world's puts
pub same_clocks : (w : World) (clock other : ℕ → List Entry) → ((v : ℕ) → other v ≡ clock v) → AreClocksOf w clock → AreClocksOf w other
same_clocks w clock other same made k l =
    next_same clock other (λ v. is_direct w k v ≡ true) (λ v. is_direct w k v ≡ true) (writer_of w k) (writer_of w k) (clock k) (other k)
    (λ v h. h) (λ v h. h) (λ v h. same v) refl (same k) (made k l)

-- a change of a kept put that leaves key and version, and a change of the record that leaves writer, key and
-- value
record Leave (f : PutNow → PutNow) (h : PutRecord → PutRecord) : Type 0 where
  version : (put : PutNow) → (f put).version ≡ put.version
  writer : (x : PutRecord) → (h x).writer ≡ x.writer
  key : (x : PutRecord) → (h x).key ≡ x.key
  both : (keys : List (List ℕ)) (v : ℕ) (put : PutNow) (x : PutRecord) → PutMeets keys v put x → PutMeets keys v (f put) (h x)

-- the puts that are kept are those of the world if one is changed here and there alike
changes : (keys : List (List ℕ)) (last : ℕ → ℕ → Option ℕ) (puts : List PutNow) (w u : World) (n : ℕ) (f : PutNow → PutNow) (h : PutRecord → PutRecord)
    → Leave f h → u.puts ≡ changed w.puts n h → AreClocksOf u (clock_at puts) → PutsMeet keys last puts w → PutsMeet keys last (changed puts n f) u
changes keys last puts w u n f h leave is made m = record {
  each = length_changed puts n f ∙ m.each ∙ sym (length_changed w.puts n h) ∙ sym (ap (λ (xs : List PutRecord). length xs) is);
  at = λ v put x a b. elim (changed_at puts n v f put a) [
    | inl s ↦ elim (changed_at w.puts n v h x (ap (λ (xs : List PutRecord). slice_get xs v) (sym is) ∙ b)) [
      | inl t ↦ (
          let p = leave.both keys n s.0 t.0 (m.at n s.0 t.0 s.2 t.2) in
          subst (λ (k : ℕ). PutMeets keys k put x) (sym s.1) (subst (λ (y : PutNow). PutMeets keys n y x) s.3 (subst (λ (y : PutRecord). PutMeets keys n (f s.0) y) t.3 p)))
      | inr t ↦ absurd (t.0 s.1)
    ]
    | inr s ↦ elim (changed_at w.puts n v h x (ap (λ (xs : List PutRecord). slice_get xs v) (sym is) ∙ b)) [
      | inl t ↦ absurd (s.0 t.1)
      | inr t ↦ m.at v put x s.1 t.1
    ]
  ];
  clocks = same_clocks u (clock_at puts) (clock_at (changed puts n f)) (λ v. part_changed (λ (put : PutNow). clock_in put.version) [] puts n f (λ put. ap (λ xs. clock_in xs) (leave.version put)) v) made;
  lasts = λ k key writer e. last_stays w u
      (record {
        each = ap (λ (xs : List PutRecord). length xs) is ∙ length_changed w.puts n h;
        writer = λ v. subst (λ (xs : List PutRecord). writer_of (record w { puts = xs }) v ≡ writer_of w v) (sym is) (part_changed (λ (x : PutRecord). x.writer) 0 w.puts n h leave.writer v);
        key = λ v. subst (λ (xs : List PutRecord). key_of_put (record w { puts = xs }) v ≡ key_of_put w v) (sym is) (part_changed (λ (x : PutRecord). x.key) [] w.puts n h leave.key v);
      })
      writer key (last k writer) (m.lasts k key writer e);
}

-- ---- tickets

ticket_leaves : (i g : ℕ) → Leave (λ put. record put { tickets = with_ticket put.tickets i g }) (λ x. record x { ticket = with_value x.ticket i g })
ticket_leaves i g = record {
  version = λ put. refl;
  writer = λ x. refl;
  key = λ x. refl;
  both = λ keys v put x p. record {
    key = p.key;
    version = p.version;
    tickets = λ j. ticket_read put.tickets i g j ∙ ap (λ (o : Option ℕ). cond (j == i) (Some g) o) (p.tickets j);
    acked = p.acked;
  };
}

-- a write gives the put a ticket of the slot's generation
pub puts_written : (ring : RingValue) (plan : List Planned) (w u : World) (v i g : ℕ) (r : Reply) (keys : List (List ℕ)) (last : ℕ → ℕ → Option ℕ) (puts : List PutNow)
    → Reached ring plan w → answer ring plan w (Write v i) ≡ Ok (u, r) → g ≡ generation plan w (put_slot ring w v i) → PutsMeet keys last puts w
    → PutsMeet keys last (changed puts v (λ put. record put { tickets = with_ticket put.tickets i g })) u
unfolding effect
puts_written ring plan w u v i g r keys last puts reached h is m =
    let a = answered ring plan w u (Write v i) r h in
    let s : u.puts ≡ changed w.puts v (λ x. record x { ticket = with_value x.ticket i (generation plan w (put_slot ring w v i)) }) = ap (λ (z : World). z.puts) (sym a.1) in
    changes keys last puts w u v (λ put. record put { tickets = with_ticket put.tickets i g }) (λ x. record x { ticket = with_value x.ticket i g }) (ticket_leaves i g)
    (s ∙ ap (λ (z : ℕ). changed w.puts v (λ x. record x { ticket = with_value x.ticket i z })) (sym is))
    (clocks_stay ring plan w u (Write v i) r (clock_at puts) reached m.clocks h refl) m

-- so does a hint
pub puts_hinted : (ring : RingValue) (plan : List Planned) (w u : World) (v i : ℕ) (x : NodeId) (g : ℕ) (r : Reply) (keys : List (List ℕ)) (last : ℕ → ℕ → Option ℕ) (puts : List PutNow)
    → Reached ring plan w → answer ring plan w (Hint v i x) ≡ Ok (u, r) → g ≡ generation plan w (put_slot ring w v i) → PutsMeet keys last puts w
    → PutsMeet keys last (changed puts v (λ put. record put { tickets = with_ticket put.tickets i g })) u
unfolding effect
puts_hinted ring plan w u v i x g r keys last puts reached h is m =
    let a = answered ring plan w u (Hint v i x) r h in
    let s : u.puts ≡ changed w.puts v (λ y. record y { ticket = with_value y.ticket i (generation plan w (put_slot ring w v i)) }) = ap (λ (z : World). z.puts) (sym a.1) in
    changes keys last puts w u v (λ put. record put { tickets = with_ticket put.tickets i g }) (λ y. record y { ticket = with_value y.ticket i g }) (ticket_leaves i g)
    (s ∙ ap (λ (z : ℕ). changed w.puts v (λ y. record y { ticket = with_value y.ticket i z })) (sym is))
    (clocks_stay ring plan w u (Hint v i x) r (clock_at puts) reached m.clocks h refl) m

-- ---- acknowledgements

ack_leaves : Leave (λ put. record put { acked = true }) (λ x. record x { acked = true })
ack_leaves = record {
  version = λ put. refl;
  writer = λ x. refl;
  key = λ x. refl;
  both = λ keys v put x p. record { key = p.key; version = p.version; tickets = p.tickets; acked = refl };
}

-- the put is acknowledged
pub puts_acked : (ring : RingValue) (plan : List Planned) (w u : World) (v : ℕ) (r : Reply) (keys : List (List ℕ)) (last : ℕ → ℕ → Option ℕ) (puts : List PutNow)
    → Reached ring plan w → answer ring plan w (Ack v) ≡ Ok (u, r) → PutsMeet keys last puts w → PutsMeet keys last (changed puts v (λ put. record put { acked = true })) u
unfolding effect
puts_acked ring plan w u v r keys last puts reached h m =
    let a = answered ring plan w u (Ack v) r h in
    changes keys last puts w u v (λ put. record put { acked = true }) (λ x. record x { acked = true }) ack_leaves
    (ap (λ (z : World). z.puts) (sym a.1))
    (clocks_stay ring plan w u (Ack v) r (clock_at puts) reached m.clocks h refl) m
