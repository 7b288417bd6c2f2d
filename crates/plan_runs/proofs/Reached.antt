-- What holds of every world to which a run leads.
use Rattle.std.proofs.Common.{◌≡◌, ◌⊎◌, inl, inr, ◌∙◌, ℕ, zero, suc, ◌<◌, ◌≤◌, Bool, true, false, cond, List, [], ◌∷◌, ◌++◌, length, refl, sym, ap, subst, arith, ltb-true, eqb-true}
use Rattle.std.specs.Prelude.{◌&&◌, ◌||◌, ◌==◌, nat_lt, Option, Some, None, slice_get}
use Rattle.std.specs.List.{list_all}
use Rattle.std.specs.Str.{bytes_eq}
use Rattle.ring_names.specs.Lists.{has}
use Rattle.ring_names.specs.declared.ids.NodeId.{NodeId}
use Rattle.ring_names.specs.declared.ids.Slot.{Slot}
use Rattle.ring_space.specs.Place.{place_of}
use Rattle.ring_table.specs.Value.{RingValue}
use Rattle.std.proofs.lemmas.Bool.{and_parts, not-true}
use Rattle.plan_text.specs.declared.step.Source.{Source}
use Rattle.plan_text.specs.declared.step.Step.{Step}
use Rattle.plan_text.specs.declared.step.Step.TheVariants.{Drop}
use Rattle.plan_text.specs.declared.step.Planned.{Planned}
use Rattle.plan_stage.specs.Each.{step_at}
use Rattle.plan_runs.specs.declared.event.Event.{Event}
use Rattle.plan_runs.specs.declared.event.Event.TheVariants.{Do, OpenCopy, ChunkCopy, CloseCopy, AbortCopy, StartPut, Write, Hint, Ack, StartGet, Read, EndGet, Handoff, Lose}
use Rattle.plan_runs.specs.declared.event.Entry.{Entry}
use Rattle.plan_runs.specs.World.{PutRecord, GetRecord, World, some_below, passing_below, opening_world, copy_at, stage_now, generation, ticket_of, key_of_put, key_of_get, seen_of, is_get_of, is_of_key}
use Rattle.plan_runs.specs.Succession.{replied}
use Rattle.plan_runs.specs.Versions.{put_slot, get_slot, is_in_chunk, slot_has}
use Rattle.plan_runs.specs.Guards.{has_copy, has_ended, guards}
use Rattle.plan_runs.specs.Effects.{with_number, without_number, with_puts, with_mirror_puts, without_puts, served_puts, changed, step_effect, source_has, is_copied, with_value, finds, answers, has_found, read_effect, end_get_effect, lose_effect, effect}
use Rattle.plan_runs.specs.Reached.{Closed, CopiesFit, IsPutOf, IsPutForGet, IsGetForPut, Reached}
use Rattle.plan_runs.specs.Runs.{Leads, IsRun}
use Rattle.plan_runs.proofs.Answered.{answered}
use Rattle.plan_runs.proofs.Changed.{read_at, part_changed, part_new}
use Rattle.plan_runs.proofs.Copying.{still_passes, closed_with, do_copies, open_copies_fit, chunk_copies, none_left, close_copies, abort_copies, other_is_no_copy}
use Rattle.plan_runs.proofs.Growing.{one_put, put_changed, one_get, get_changes, gets_kept, gets_grow, new_put_seen, new_get_found, new_get_replied, changed_found, changed_replied}
use Rattle.plan_runs.proofs.Latest.{latest_of_is}
use Rattle.plan_runs.proofs.Passed.{AllMet, all_met, among, ready}
use Rattle.plan_runs.proofs.Passing.{some_found, below_is}
use Rattle.plan_runs.proofs.Ticketed.{TicketFits, TicketsFit, ticket_stays, new_put_ticket, ticketed_fits, lose_more}
use Rattle.plan_runs.proofs.Storing.{StoreFits, GetsFit, Grows, put_stays, for_get_stays, with_puts_is, with_mirror_is, served_puts_is, without_puts_was, lose_stored, lose_hinted}

-- the same in parts
record Parts (ring : RingValue) (plan : List Planned) (w : World) : Type 0 where
  pub closed : Closed plan w.done
  pub copies : CopiesFit plan w.done w.is_open w.marked
  pub tickets : TicketsFit ring plan w
  pub store : StoreFits ring w
  pub gets : GetsFit w
  pub spent : w.losses ≤ ring.loss

-- ---- what an event leaves as it is

same_gets : (w : World) (d o : ℕ → Bool) (m : ℕ → ℕ → Bool) (a : ℕ → Bool) (b h : ℕ → Slot → ℕ → Bool) → GetsFit w → GetsFit (record w { done = d; is_open = o; marked = m; up = a; stored = b; hinted = h })
same_gets w d o m a b h i = record { found = i.found; replied = i.replied; seen = i.seen }

less_store : (ring : RingValue) (w : World) (d o : ℕ → Bool) (m : ℕ → ℕ → Bool) (a : ℕ → Bool) (b : ℕ → Slot → ℕ → Bool) → ((x : ℕ) (s : Slot) (v : ℕ) → b x s v ≡ true → w.stored x s v ≡ true)
    → StoreFits ring w → StoreFits ring (record w { done = d; is_open = o; marked = m; up = a; stored = b })
less_store ring w d o m a b less i = record { stored = λ x s v e. i.stored x s v (less x s v e); hinted = i.hinted }

-- nothing of puts and gets changes
around : (ring : RingValue) (plan : List Planned) (w : World) (d o : ℕ → Bool) (m : ℕ → ℕ → Bool) (a : ℕ → Bool) (b : ℕ → Slot → ℕ → Bool) → Parts ring plan w → ((k : ℕ) → w.done k ≡ true → d k ≡ true) → Closed plan d → CopiesFit plan d o m
    → ((x : ℕ) (s : Slot) (v : ℕ) → b x s v ≡ true → w.stored x s v ≡ true) → Parts ring plan (record w { done = d; is_open = o; marked = m; up = a; stored = b })
around ring plan w d o m a b i more closed copies less = record {
  closed = closed;
  copies = copies;
  tickets = λ v j g e. ticket_stays ring plan w (record w { done = d; is_open = o; marked = m; up = a; stored = b }) v j g refl more (λ s. omega arith) (i.tickets v j g e);
  store = less_store ring w d o m a b less i.store;
  gets = same_gets w d o m a b w.hinted i.gets;
  spent = i.spent;
}

do_parts : (ring : RingValue) (plan : List Planned) (w : World) (n : ℕ) (t : Option Step) → Parts ring plan w → Closed plan (with_number w.done n) → CopiesFit plan (with_number w.done n) w.is_open w.marked
    → Parts ring plan (elim t [ Some s ↦ step_effect (record w { done = with_number w.done n }) s | None ↦ w ])
do_parts ring plan w n None i c k = i
do_parts ring plan w n (Some (Drop s x)) i c k = around ring plan w (with_number w.done n) w.is_open w.marked w.up (without_puts w.stored x s) i (still_passes w.done n) c k (λ y t v e. without_puts_was w.stored x s y t v e)
do_parts ring plan w n (Some s) i c k = around ring plan w (with_number w.done n) w.is_open w.marked (step_effect w s).up w.stored i (still_passes w.done n) c k (λ y t v e. e)

-- ---- a chunk

copied_is : (ring : RingValue) (plan : List Planned) (w : World) (n c : ℕ) (o : Option (Slot × Source)) → StoreFits ring w → (y : ℕ) (t : Slot) (u : ℕ)
    → (elim o as (λ _. ℕ → Slot → ℕ → Bool) [ Some k ↦ with_mirror_puts w.stored (stage_now ring plan w k.0).mirror k.0 (is_copied ring plan w k.0 k.1 c) | None ↦ w.stored ]) y t u ≡ true → IsPutOf ring w t u
copied_is ring plan w n c None i y t u e = i.stored y t u e
copied_is ring plan w n c (Some k) i y t u e = elim (with_mirror_is w.stored (stage_now ring plan w k.0).mirror k.0 (is_copied ring plan w k.0 k.1 c) y t u e) [
  | inl f ↦ (
      let a = and_parts (nat_lt u (length w.puts) && is_in_chunk ring w k.0 c u) (source_has ring plan w k.0 k.1 u) f.1 in
      let b = and_parts (nat_lt u (length w.puts)) (is_in_chunk ring w k.0 c u) a.0 in
      let p = and_parts ((place_of ring.q (key_of_put w u)).partition == k.0.partition) ((place_of ring.q (key_of_put w u)).chunk == c) b.1 in
      subst (λ (z : Slot). IsPutOf ring w z u) (sym f.0) (ltb-true u (length w.puts) b.0, eqb-true (place_of ring.q (key_of_put w u)).partition k.0.partition p.0))
  | inr f ↦ i.stored y t u f
]

neither : (a b : Bool) → (a || b) ≡ false → a ≡ false
neither true b e = absurd cc
neither false b e = refl

-- ---- puts

get_exists : (k : List ℕ) (gs : List GetRecord) (g : ℕ) → (elim (slice_get gs g) [ Some x ↦ bytes_eq x.key k | None ↦ false ]) ≡ true → g < length gs
get_exists k [] g e = absurd cc
get_exists k (x ∷ gs) zero e = omega arith
get_exists k (x ∷ gs) (suc g) e = (let l = get_exists k gs g e in omega arith)

put_parts : (ring : RingValue) (plan : List Planned) (w : World) (p : PutRecord) → ((j : ℕ) → p.ticket j ≡ None) → Parts ring plan w → list_all (is_get_of w p.key) p.seen ≡ true → list_all (has_ended w) p.seen ≡ true → Parts ring plan (record w { puts = w.puts ++ p ∷ [] })
put_parts ring plan w p none i of ended = record {
  closed = i.closed;
  copies = i.copies;
  tickets = λ v j g e. (let r = new_put_ticket w.puts p v j g (none j) e in ticket_stays ring plan w u v j g (grows.key v r.0) (λ k d. d) (λ s. omega arith) (i.tickets v j g r.1));
  store = record { stored = λ x s v e. put_stays ring w u s v grows (i.store.stored x s v e); hinted = λ x s v e. put_stays ring w u s v grows (i.store.hinted x s v e) };
  gets = gets_kept w u grows refl named i.gets;
  spent = i.spent;
}
  where
    u : World
    u = record w { puts = w.puts ++ p ∷ [] }

    grows : Grows w u
    grows = one_put w p

    named : (n g : ℕ) → has g (seen_of u n) ≡ true → (has g (seen_of w n) ≡ true) ⊎ IsGetForPut u n g
    named n g e = elim (new_put_seen w.puts p n g e) [
      | inl f ↦ inl f
      | inr f ↦ (
          let a : is_get_of w p.key g ≡ true = among (is_get_of w p.key) g p.seen of f.1 in
          let k : key_of_put u n ≡ p.key = part_new (λ (x : PutRecord). x.key) [] w.puts p n f.0 in
          inr (get_exists p.key w.gets g a, subst (λ (z : List ℕ). is_get_of u z g ≡ true) (sym k) a, among (has_ended w) g p.seen ended f.1))
    ]

-- a put is changed, and what is stored and kept are puts of the slot's partition
changed_parts : (ring : RingValue) (plan : List Planned) (w : World) (n : ℕ) (f : PutRecord → PutRecord) (b h : ℕ → Slot → ℕ → Bool) → ((x : PutRecord) → (f x).key ≡ x.key) → ((x : PutRecord) → (f x).seen ≡ x.seen)
    → ((v j g : ℕ) → read_at (λ (x : PutRecord). x.ticket j) None (changed w.puts n f) v ≡ Some g → (ticket_of w v j ≡ Some g) ⊎ TicketFits ring plan w v j g) → Parts ring plan w
    → ((x : ℕ) (s : Slot) (v : ℕ) → b x s v ≡ true → IsPutOf ring w s v) → ((x : ℕ) (s : Slot) (v : ℕ) → h x s v ≡ true → IsPutOf ring w s v) → Parts ring plan (record w { puts = changed w.puts n f; stored = b; hinted = h })
changed_parts ring plan w n f b h key seen tickets i stored hinted = record {
  closed = i.closed;
  copies = i.copies;
  tickets = λ v j g e. ticket_stays ring plan w u v j g (part_changed (λ (x : PutRecord). x.key) [] w.puts n f key v) (λ k d. d) (λ s. omega arith) (elim (tickets v j g e) [ inl t ↦ i.tickets v j g t | inr t ↦ t ]);
  store = record { stored = λ x s v e. put_stays ring w u s v grows (stored x s v e); hinted = λ x s v e. put_stays ring w u s v grows (hinted x s v e) };
  gets = gets_kept w u grows refl (λ p g e. inl (subst (λ (gs : List ℕ). has g gs ≡ true) (part_changed (λ (x : PutRecord). x.seen) [] w.puts n f seen p) e)) i.gets;
  spent = i.spent;
}
  where
    u : World
    u = record w { puts = changed w.puts n f; stored = b; hinted = h }

    grows : Grows w u
    grows = put_changed w n f b h key

-- puts of the slot come
served_fit : (ring : RingValue) (plan : List Planned) (w : World) (s : Slot) (more : ℕ → Bool) → StoreFits ring w → ((v : ℕ) → more v ≡ true → IsPutOf ring w s v) → (x : ℕ) (t : Slot) (u : ℕ) → served_puts ring plan w s more x t u ≡ true → IsPutOf ring w t u
served_fit ring plan w s more i h x t u e = elim (served_puts_is ring plan w s more x t u e) [
  | inl f ↦ subst (λ (z : Slot). IsPutOf ring w z u) (sym f.0) (h u f.1)
  | inr f ↦ i.stored x t u f
]

kept_fit : (ring : RingValue) (w : World) (y : NodeId) (s : Slot) (more : ℕ → Bool) → StoreFits ring w → ((v : ℕ) → more v ≡ true → IsPutOf ring w s v) → (x : ℕ) (t : Slot) (u : ℕ) → with_puts w.hinted y s more x t u ≡ true → IsPutOf ring w t u
kept_fit ring w y s more i h x t u e = elim (with_puts_is w.hinted y s more x t u e) [
  | inl f ↦ subst (λ (z : Slot). IsPutOf ring w z u) (sym f.1) (h u f.2)
  | inr f ↦ i.hinted x t u f
]

only : (ring : RingValue) (w : World) (v j : ℕ) → v < length w.puts → (u : ℕ) → (u == v) ≡ true → IsPutOf ring w (put_slot ring w v j) u
only ring w v j l u e = subst (λ (z : ℕ). IsPutOf ring w (put_slot ring w v j) z) (sym (eqb-true u v e)) (l, refl)

-- ---- gets

start_get_parts : (ring : RingValue) (plan : List Planned) (w : World) (a : GetRecord) → ((j : ℕ) → a.found j ≡ None) → a.reply ≡ None → Parts ring plan w → Parts ring plan (record w { gets = w.gets ++ a ∷ [] })
start_get_parts ring plan w a found reply i = record {
  closed = i.closed;
  copies = i.copies;
  tickets = i.tickets;
  store = record { stored = i.store.stored; hinted = i.store.hinted };
  gets = gets_grow w (record w { gets = w.gets ++ a ∷ [] }) (one_get w a) refl (λ g k v e. inl (new_get_found w.gets a g k v found e)) (λ g v e. inl (new_get_replied w.gets a g v reply e)) i.gets;
  spent = i.spent;
}

-- what a read finds exists and is of the get's key, and so is what a get is answered
finds_fit : (ring : RingValue) (plan : List Planned) (w : World) (g j v : ℕ) → has v (finds ring plan w g j) ≡ true → IsPutForGet w g v
finds_fit ring plan w g j v e =
    let test : ℕ → Bool = λ u. is_of_key w (key_of_get w g) u && slot_has ring plan w (get_slot ring w g j) u in
    let b = below_is (length w.puts) test v (latest_of_is w (passing_below (length w.puts) test) (passing_below (length w.puts) test) v e).0 in
    (b.0, (and_parts (is_of_key w (key_of_get w g) v) (slot_has ring plan w (get_slot ring w g j) v) b.1).0)

answers_fit : (ring : RingValue) (w : World) (g v : ℕ) → GetsFit w → has v (answers ring w g) ≡ true → IsPutForGet w g v
answers_fit ring w g v i e =
    let test : ℕ → Bool = λ u. some_below ring.n (has_found w g u) in
    let b = below_is (length w.puts) test v (latest_of_is w (passing_below (length w.puts) test) (passing_below (length w.puts) test) v e).0 in
    let s = some_found ring.n (has_found w g v) b.1 in
    i.found g s.0 v s.2

-- what was found, read again
abbrev has_one : Option (List ℕ) → ℕ → Bool
has_one o v = elim o [ Some vs ↦ has v vs | None ↦ false ]

still_found : (gs : List GetRecord) (g k v : ℕ) (x : GetRecord) → slice_get gs g ≡ Some x → has_one (x.found k) v ≡ true → has_one (elim (slice_get gs g) as (λ _. Option (List ℕ)) [ Some y ↦ y.found k | None ↦ None ]) v ≡ true
still_found gs g k v x at e = rw at e

read_parts : (ring : RingValue) (plan : List Planned) (w : World) (g j : ℕ) → g < length w.gets → Parts ring plan w → Parts ring plan (read_effect ring plan w g j)
read_parts ring plan w g j l i = record {
  closed = i.closed;
  copies = i.copies;
  tickets = i.tickets;
  store = record { stored = i.store.stored; hinted = i.store.hinted };
  gets = gets_grow w u grows refl found (λ h v e. inl (replied_before h v e)) i.gets;
  spent = i.spent;
}
  where
    reads : GetRecord → GetRecord
    reads x = record x { found = with_value x.found j (finds ring plan w g j) }

    u : World
    u = read_effect ring plan w g j

    grows : Grows w u
    grows = get_changes w g reads (λ x. refl) (λ x e. e)

    found : (h k v : ℕ) → has_found u h v k ≡ true → (has_found w h v k ≡ true) ⊎ IsPutForGet u h v
    found h k v e = elim (changed_found w.gets g reads h k v e) [
      | inl f ↦ inl f
      | inr f ↦ by (k == j) f.0 f.1 f.3 f.2
    ]
      where
        by : (b : Bool) → h ≡ g → (x : GetRecord) → slice_get w.gets h ≡ Some x → has_one (cond b (Some (finds ring plan w g j)) (x.found k)) v ≡ true → (has_found w h v k ≡ true) ⊎ IsPutForGet u h v
        by true same x at z = inr (subst (λ (n : ℕ). IsPutForGet u n v) (sym same) (for_get_stays w u g v grows l (finds_fit ring plan w g j v z)))
        by false same x at z = inl (still_found w.gets h k v x at z)

    replied_before : (h v : ℕ) → replied u.gets h v ≡ true → replied w.gets h v ≡ true
    replied_before h v e = sym (part_changed (λ (x : GetRecord). has_one x.reply v) false w.gets g reads (λ x. refl) h) ∙ e

end_get_parts : (ring : RingValue) (plan : List Planned) (w : World) (g : ℕ) → g < length w.gets → Parts ring plan w → Parts ring plan (end_get_effect ring w g)
end_get_parts ring plan w g l i = record {
  closed = i.closed;
  copies = i.copies;
  tickets = i.tickets;
  store = record { stored = i.store.stored; hinted = i.store.hinted };
  gets = gets_grow w u grows refl (λ h k v e. inl (found_before h k v e)) replies i.gets;
  spent = i.spent;
}
  where
    ends : GetRecord → GetRecord
    ends x = record x { reply = Some (answers ring w g) }

    u : World
    u = end_get_effect ring w g

    grows : Grows w u
    grows = get_changes w g ends (λ x. refl) (λ x e. refl)

    found_before : (h k v : ℕ) → has_found u h v k ≡ true → has_found w h v k ≡ true
    found_before h k v e = sym (ap (λ (o : Option (List ℕ)). has_one o v) (part_changed (λ (x : GetRecord). x.found k) None w.gets g ends (λ x. refl) h)) ∙ e

    replies : (h v : ℕ) → replied u.gets h v ≡ true → (replied w.gets h v ≡ true) ⊎ IsPutForGet u h v
    replies h v e = elim (changed_replied w.gets g ends h v e) [
      | inl f ↦ inl f
      | inr f ↦ inr (subst (λ (n : ℕ). IsPutForGet u n v) (sym f.0) (for_get_stays w u g v grows l (answers_fit ring w g v i.gets f.2)))
    ]

-- ---- one event

abbrev ticketed : RingValue → List Planned → World → ℕ → ℕ → PutRecord → PutRecord
ticketed ring plan w v j x = record x { ticket = with_value x.ticket j (generation plan w (put_slot ring w v j)) }

event_parts : (ring : RingValue) (plan : List Planned) (w : World) → Parts ring plan w → (e : Event) → AllMet (guards ring plan w e) → Parts ring plan (effect ring plan w e)
unfolding guards effect
event_parts ring plan w i (Do n) g =
    do_parts ring plan w n (step_at plan n) i (closed_with plan w.done n i.closed (ready plan w n g.1.1.0)) (do_copies plan w.done w.is_open w.marked n i.copies (other_is_no_copy plan n g.0))
event_parts ring plan w i (OpenCopy n) g =
    around ring plan w w.done (with_number w.is_open n) w.marked w.up w.stored i (λ k e. e) i.closed
    (open_copies_fit plan w.done w.is_open w.marked n i.copies g.0 (ready plan w n g.1.1.0) (neither (w.done n) (w.is_open n) (not-true (w.done n || w.is_open n) g.1.0))) (λ x s v e. e)
event_parts ring plan w i (ChunkCopy n c) g = record {
  closed = i.closed;
  copies = chunk_copies plan w.done w.is_open w.marked n c i.copies g.1.0 (ltb-true c 16 (and_parts (has_copy plan n) (nat_lt c 16) g.0).1);
  tickets = i.tickets;
  store = record { stored = λ x s v e. copied_is ring plan w n c (copy_at plan n) i.store x s v e; hinted = i.store.hinted };
  gets = record { found = i.gets.found; replied = i.gets.replied; seen = i.gets.seen };
  spent = i.spent;
}
event_parts ring plan w i (CloseCopy n) g =
    around ring plan w (with_number w.done n) (without_number w.is_open n) w.marked w.up w.stored i (still_passes w.done n) (closed_with plan w.done n i.closed (i.copies.ready n g.1.0))
    (close_copies plan w.done w.is_open w.marked n i.copies (none_left 16 (w.marked n) g.1.1.0)) (λ x s v e. e)
event_parts ring plan w i (AbortCopy n) g =
    around ring plan w w.done (without_number w.is_open n) w.marked w.up w.stored i (λ k e. e) i.closed (abort_copies plan w.done w.is_open w.marked n i.copies) (λ x s v e. e)
event_parts ring plan w i (StartPut writer key value seen) g =
    put_parts ring plan w (record { writer = writer.0; key = key; value = value; seen = seen; ticket = λ j. None; acked = false }) (λ j. refl) i g.0 g.1.0
event_parts ring plan w i (Write v j) g =
    let l = ltb-true v (length w.puts) (and_parts (nat_lt v (length w.puts)) (nat_lt j ring.n) g.0).0 in
    changed_parts ring plan w v (ticketed ring plan w v j) (served_puts ring plan w (put_slot ring w v j) (λ u. u == v)) w.hinted (λ x. refl) (λ x. refl) (ticketed_fits ring plan w v j (ltb-true j ring.n (and_parts (nat_lt v (length w.puts)) (nat_lt j ring.n) g.0).1)) i
    (served_fit ring plan w (put_slot ring w v j) (λ u. u == v) i.store (only ring w v j l)) i.store.hinted
event_parts ring plan w i (Hint v j x) g =
    let l = ltb-true v (length w.puts) (and_parts (nat_lt v (length w.puts)) (nat_lt j ring.n) g.0).0 in
    changed_parts ring plan w v (ticketed ring plan w v j) w.stored (with_puts w.hinted x (put_slot ring w v j) (λ u. u == v)) (λ x. refl) (λ x. refl) (ticketed_fits ring plan w v j (ltb-true j ring.n (and_parts (nat_lt v (length w.puts)) (nat_lt j ring.n) g.0).1)) i
    i.store.stored (kept_fit ring w x (put_slot ring w v j) (λ u. u == v) i.store (only ring w v j l))
event_parts ring plan w i (Ack v) g = changed_parts ring plan w v (λ x. record x { acked = true }) w.stored w.hinted (λ x. refl) (λ x. refl)
    (λ u j h e. inl (sym (part_changed (λ (x : PutRecord). x.ticket j) None w.puts v (λ x. record x { acked = true }) (λ x. refl) u) ∙ e)) i i.store.stored i.store.hinted
event_parts ring plan w i (StartGet key) g = start_get_parts ring plan w (record { key = key; found = λ j. None; reply = None }) (λ j. refl) refl i
event_parts ring plan w i (Read h j) g = read_parts ring plan w h j (ltb-true h (length w.gets) (and_parts (nat_lt h (length w.gets)) (nat_lt j ring.n) g.0).0) i
event_parts ring plan w i (EndGet h) g = end_get_parts ring plan w h (ltb-true h (length w.gets) g.0) i
event_parts ring plan w i (Handoff x s) g = record {
  closed = i.closed;
  copies = i.copies;
  tickets = i.tickets;
  store = record {
    stored = served_fit ring plan w s (w.hinted x.0 s) i.store (λ v e. i.store.hinted x.0 s v e);
    hinted = λ y t v e. i.store.hinted y t v (without_puts_was w.hinted x s y t v e);
  };
  gets = record { found = i.gets.found; replied = i.gets.replied; seen = i.gets.seen };
  spent = i.spent;
}
event_parts ring plan w i (Lose x) g = record {
  closed = i.closed;
  copies = i.copies;
  tickets = λ v j h e. ticket_stays ring plan w (lose_effect ring plan w x) v j h refl (λ k d. d) (lose_more ring plan w x) (i.tickets v j h e);
  store = record {
    stored = λ y t v e. i.store.stored y t v (lose_stored ring plan w x y t v e);
    hinted = λ y t v e. i.store.hinted y t v (lose_hinted ring plan w x y t v e);
  };
  gets = record { found = i.gets.found; replied = i.gets.replied; seen = i.gets.seen };
  spent = (let l = ltb-true w.losses ring.loss g.1.0 in omega (arith, l));
}
event_parts ring plan w i e g = around ring plan w w.done w.is_open w.marked (effect ring plan w e).up w.stored i (λ k d. d) i.closed i.copies (λ y s v h. h)

pub event_reached : (ring : RingValue) (plan : List Planned) (w : World) → Reached ring plan w → (e : Event) → AllMet (guards ring plan w e) → Reached ring plan (effect ring plan w e)
event_reached ring plan w r e g =
    let i : Parts ring plan w = record { closed = r.closed; copies = r.copies; tickets = r.tickets; store = record { stored = r.stored; hinted = r.hinted }; gets = record { found = r.found; replied = r.replied; seen = r.seen }; spent = r.spent } in
    let j = event_parts ring plan w i e g in
    record { closed = j.closed; copies = j.copies; tickets = j.tickets; stored = j.store.stored; hinted = j.store.hinted; found = j.gets.found; replied = j.gets.replied; seen = j.gets.seen; spent = j.spent }

-- ---- a run

pub start_reached : (ring : RingValue) (plan : List Planned) → Reached ring plan (opening_world ring)
start_reached ring plan = record {
  closed = λ a n e d. absurd cc;
  copies = record { copies = λ n e. absurd cc; ready = λ n e. absurd cc; unfinished = λ n e. refl; marks = λ n c e. absurd cc; copied = λ n c h e l. absurd cc };
  tickets = λ v i g e. absurd cc;
  stored = λ x s v e. absurd cc;
  hinted = λ x s v e. absurd cc;
  found = λ g i v e. absurd cc;
  replied = λ g v e. absurd cc;
  seen = λ u g e. absurd cc;
  spent = omega arith;
}

pub run_reached : (ring : RingValue) (plan : List Planned) (run : List Entry) (w v : World) → Reached ring plan w → Leads ring plan w run v → Reached ring plan v
run_reached ring plan [] w v i l = subst (λ (u : World). Reached ring plan u) (sym l) i
run_reached ring plan (x ∷ xs) w v i l =
    let a = answered ring plan w l.0 x.event x.reply l.1 in
    let j : Reached ring plan l.0 = subst (λ (u : World). Reached ring plan u) a.1 (event_reached ring plan w i x.event (all_met (guards ring plan w x.event) a.0)) in
    run_reached ring plan xs l.0 v j l.2

pub reached : (ring : RingValue) (plan : List Planned) (run : List Entry) (w : World) → IsRun ring plan run w → Reached ring plan w
reached ring plan run w l = run_reached ring plan run (opening_world ring) w (start_reached ring plan) l
