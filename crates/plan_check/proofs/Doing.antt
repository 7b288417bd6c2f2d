-- What each event but a loss keeps.
use Rattle.std.proofs.Common.{◌≡◌, inl, ℕ, Bool, true, false, not, List, length, Option, Some, None, refl, ap, arith, ltb-true, leb-true, eqb-true}
use Rattle.std.specs.Prelude.{◌==◌, ◌&&◌, nat_lt, is_some}
use Rattle.std.proofs.lemmas.Bool.{and_parts, not-true, and_from}
use Rattle.ring_names.specs.declared.ids.NodeId.{NodeId}
use Rattle.ring_names.specs.declared.ids.Slot.{Slot}
use Rattle.ring_table.specs.Value.{RingValue}
use Rattle.plan_text.specs.declared.step.Source.{Source}
use Rattle.plan_text.specs.declared.step.Step.{Step}
use Rattle.plan_text.specs.declared.step.Step.TheVariants.{Copy, Drop}
use Rattle.plan_text.specs.declared.step.Planned.{Planned}
use Rattle.plan_text.specs.Steps.{is_slot}
use Rattle.plan_stage.specs.Each.{step_at}
use Rattle.plan_runs.specs.declared.event.Event.{Event}
use Rattle.plan_runs.specs.declared.event.Event.TheVariants.{Do, ChunkCopy, CloseCopy, StartPut, Write, Hint, Ack, Handoff, Lose}
use Rattle.plan_runs.specs.World.{GetRecord, World, copy_at, stage_now}
use Rattle.plan_runs.specs.Versions.{put_slot}
use Rattle.plan_runs.specs.Guards.{has_copy, current_tickets, guards}
use Rattle.plan_runs.specs.Effects.{with_number, without_number, without_puts, with_mark, with_mirror_puts, served_puts, step_effect, is_copied, effect}
use Rattle.plan_runs.specs.Leaves.{loses}
use Rattle.plan_check.specs.Firm.{Holding}
use Rattle.plan_runs.specs.Reached.{Ready, Reached}
use Rattle.plan_check.proofs.Chunks.{chunk_keeps}
use Rattle.plan_runs.proofs.Copying.{still_passes}
use Rattle.plan_check.proofs.Entering.{with_done}
use Rattle.plan_runs.proofs.Lasting.{Extends, event_extends}
use Rattle.plan_check.proofs.Mirrored.{Known, Holds}
use Rattle.plan_runs.proofs.Passed.{AllMet, ready}
use Rattle.plan_check.proofs.Partakers.{copy_is}
use Rattle.plan_check.proofs.Putting.{start_put_keeps, write_keeps, hint_keeps, ack_keeps}
use Rattle.plan_runs.proofs.Members.{member_within}
use Rattle.plan_check.proofs.Quiet.{tickets_keep, quiet_keeps, more_slots, handed_slots}
use Rattle.plan_runs.proofs.Serial.{acked_exists}
use Rattle.plan_check.proofs.Standing.{KeepsFirm}
use Rattle.plan_check.proofs.Stepping.{Goes, stepped}
use Rattle.plan_runs.proofs.Ticketed.{generation_more}
use Rattle.plan_stage.proofs.Truth.{slot-is}

-- ---- steps

-- a step that is done keeps all, where nodes store what they did but for what they drop
done_keeps : (ring : RingValue) (plan : List Planned) → Known ring plan → (w : World) (n : ℕ) (o a : ℕ → Bool) (b : ℕ → Slot → ℕ → Bool)
    → Reached ring plan w → Holding ring plan w → Extends w (with_done w n o a b)
    → Ready plan w.done n → w.done n ≡ false → (t : Step) → step_at plan n ≡ Some t
    → ((s : Slot) (z v : ℕ) → ((m : NodeId) → t ≡ Drop s m → z ≡ m.0 → ⊥) → w.stored z s v ≡ true → b z s v ≡ true)
    → KeepsFirm ring plan w (with_done w n o a b)
done_keeps ring plan k w n o a b r h x y off t at kept = record {
  extends = x;
  losses = refl;
  tickets =
      tickets_keep ring plan w (with_done w n o a b) r h x (λ s. generation_more plan w (with_done w n o a b) s (still_passes w.done n) (omega arith))
      (λ s v e f. (goes s).twice v e f) (λ v i g e. inl e);
  firm = λ v i e f. (goes (put_slot ring w v i)).firm v (acked_exists w.puts v e) f;
  acked = λ v e. inl e;
}
  where
    goes : (s : Slot) → Goes ring plan w (with_done w n o a b) s
    goes s = stepped ring plan k w n o a b r x y off t at kept s

-- nothing of puts and slots changes
idle_keeps : (ring : RingValue) (plan : List Planned) (w : World) (o a : ℕ → Bool) (gs : List GetRecord) → Reached ring plan w → Holding ring plan w
    → Extends w (record w { is_open = o; up = a; gets = gs }) → KeepsFirm ring plan w (record w { is_open = o; up = a; gets = gs })
idle_keeps ring plan w o a gs r h x =
    quiet_keeps ring plan w o a w.puts gs w.stored w.hinted r h x
    (more_slots ring plan w o a w.marked w.puts gs w.stored w.hinted (λ y t v e. e) (λ y t v e. e)) (λ v i g e. inl e) (λ v e. inl e)

-- a step that is not a copy
do_keeps : (ring : RingValue) (plan : List Planned) → Known ring plan → (w : World) (n : ℕ) (m : Option Step) → step_at plan n ≡ m → Reached ring plan w
    → Holding ring plan w
    → Extends w (elim m [ Some s ↦ step_effect (record w { done = with_number w.done n }) s | None ↦ w ]) → Ready plan w.done n → w.done n ≡ false
    → KeepsFirm ring plan w (elim m [ Some s ↦ step_effect (record w { done = with_number w.done n }) s | None ↦ w ])
do_keeps ring plan k w n None at r h x y off = idle_keeps ring plan w w.is_open w.up w.gets r h x
do_keeps ring plan k w n (Some (Drop s z)) at r h x y off =
    done_keeps ring plan k w n w.is_open w.up (without_puts w.stored z s) r h x y off (Drop s z) at others
  where
    others : (t : Slot) (q v : ℕ) → ((m : NodeId) → Drop s z ≡ Drop t m → q ≡ m.0 → ⊥) → w.stored q t v ≡ true → without_puts w.stored z s q t v ≡ true
    others t q v never e = by ((q == z.0) && is_slot s t) refl
      where
        by : (c : Bool) → ((q == z.0) && is_slot s t) ≡ c → without_puts w.stored z s q t v ≡ true
        by true g = absurd (let p = and_parts (q == z.0) (is_slot s t) g in never z (ap (λ (c : Slot). Drop c z) (slot-is s t p.1)) (eqb-true q z.0 p.0))
        by false g = and_from (not ((q == z.0) && is_slot s t)) (w.stored q t v) (rw g refl) e
do_keeps ring plan k w n (Some t) at r h x y off = done_keeps ring plan k w n w.is_open (step_effect w t).up w.stored r h x y off t at (λ s q v f e. e)

-- ---- copies

-- a copy that is closed
close_keeps : (ring : RingValue) (plan : List Planned) → Known ring plan → (w : World) (n : ℕ) (c : Option (Slot × Source)) → copy_at plan n ≡ c
    → is_some c ≡ true → Reached ring plan w → Holding ring plan w → w.is_open n ≡ true
    → Extends w (with_done w n (without_number w.is_open n) w.up w.stored) → KeepsFirm ring plan w (with_done w n (without_number w.is_open n) w.up w.stored)
close_keeps ring plan k w n None at one r h is_open x = absurd cc
close_keeps ring plan k w n (Some c) at one r h is_open x =
    done_keeps ring plan k w n (without_number w.is_open n) w.up w.stored r h x (r.copies.ready n is_open) (r.copies.unfinished n is_open) (Copy c.0 c.1)
    (copy_is (step_at plan n) c.0 c.1 at) (λ s z v f e. e)

-- with chunk c of step n marked. If the step is a copy, the slot's mirror gets what the copy reads of the chunk
abbrev with_chunk : RingValue → List Planned → World → ℕ → ℕ → Option (Slot × Source) → World
with_chunk ring plan w n c o = record w {
  marked = with_mark w.marked n c;
  stored = elim o [
    | Some d ↦ with_mirror_puts w.stored (stage_now ring plan w d.0).mirror d.0 (is_copied ring plan w d.0 d.1 c)
    | None ↦ w.stored
  ];
}

-- a chunk of a copy
copied_keeps : (ring : RingValue) (plan : List Planned) → Holds ring plan → (w : World) (n c : ℕ) (o : Option (Slot × Source)) → copy_at plan n ≡ o
    → is_some o ≡ true → Reached ring plan w → Holding ring plan w
    → Extends w (with_chunk ring plan w n c o) → KeepsFirm ring plan w (with_chunk ring plan w n c o)
copied_keeps ring plan k w n c None at one r h x = absurd cc
copied_keeps ring plan k w n c (Some d) at one r h x = chunk_keeps ring plan k w n c d.0 d.1 r h at x

-- ---- one event

-- each event but a loss keeps what is held
pub event_keeps : (ring : RingValue) (plan : List Planned) → Holds ring plan → (w : World) → Reached ring plan w → Holding ring plan w → (e : Event)
    → loses e ≡ false → AllMet (guards ring plan w e) → KeepsFirm ring plan w (effect ring plan w e)
unfolding guards effect
event_keeps ring plan k w r h (Do n) kept g =
    do_keeps ring plan k.known w n (step_at plan n) refl r h (event_extends ring plan w (Do n) g) (ready plan w n g.1.1.0) (not-true (w.done n) g.1.0)
event_keeps ring plan k w r h (ChunkCopy n c) kept g =
    copied_keeps ring plan k w n c (copy_at plan n) refl (and_parts (has_copy plan n) (nat_lt c 16) g.0).0 r h (event_extends ring plan w (ChunkCopy n c) g)
event_keeps ring plan k w r h (CloseCopy n) kept g =
    close_keeps ring plan k.known w n (copy_at plan n) refl g.0 r h g.1.0 (event_extends ring plan w (CloseCopy n) g)
event_keeps ring plan k w r h (StartPut writer key value seen) kept g =
    start_put_keeps ring plan w (record { writer = writer.0; key = key; value = value; seen = seen; ticket = λ j. None; acked = false }) (λ i. refl) refl r h
    (event_extends ring plan w (StartPut writer key value seen) g)
event_keeps ring plan k w r h (Write v j) kept g =
    write_keeps ring plan w v j (ltb-true v (length w.puts) (and_parts (nat_lt v (length w.puts)) (nat_lt j ring.n) g.0).0) r h
    (event_extends ring plan w (Write v j) g)
event_keeps ring plan k w r h (Hint v j x) kept g =
    hint_keeps ring plan w v j x (ltb-true v (length w.puts) (and_parts (nat_lt v (length w.puts)) (nat_lt j ring.n) g.0).0)
    (member_within ring plan w x.0 k.known.in_turn.suits g.1.0) r h (event_extends ring plan w (Hint v j x) g)
event_keeps ring plan k w r h (Ack v) kept g =
    ack_keeps ring plan w v (ltb-true v (length w.puts) g.0) (leb-true ring.w (current_tickets ring plan w v) g.1.1.0) r h
    (event_extends ring plan w (Ack v) g)
event_keeps ring plan k w r h (Handoff x s) kept g =
    quiet_keeps ring plan w w.is_open w.up w.puts w.gets (served_puts ring plan w s (w.hinted x.0 s)) (without_puts w.hinted x s) r h
    (event_extends ring plan w (Handoff x s) g) (handed_slots ring plan w x s) (λ v i c e. inl e) (λ v e. inl e)
event_keeps ring plan k w r h (Lose x) kept g = absurd cc
event_keeps ring plan k w r h e kept g =
    let u = effect ring plan w e in
    idle_keeps ring plan w u.is_open u.up u.gets r h (event_extends ring plan w e g)
