-- Puts that start, are written, kept as hints and acknowledged keep what is held.
use Rattle.std.proofs.Common.{◌≡◌, ◌⊎◌, inl, inr, ◌∙◌, ℕ, ◌<◌, ◌≤◌, Bool, true, false, cond, List, [], ◌∷◌, ◌++◌, length, Option, Some, None, refl, sym}
use Rattle.std.proofs.Common.{subst, arith, eqb-true, eq-eqb, lt-ltb}
use Rattle.std.specs.Prelude.{◌==◌, nat_lt}
use Rattle.std.proofs.lemmas.Bool.{or_right, or_left}
use Rattle.ring_names.specs.declared.ids.NodeId.{NodeId}
use Rattle.ring_names.specs.declared.ids.Slot.{Slot}
use Rattle.ring_table.specs.Value.{RingValue}
use Rattle.plan_text.specs.declared.step.Planned.{Planned}
use Rattle.plan_runs.specs.World.{PutRecord, World, passing_below, some_below, stage_now, generation, ticket_of}
use Rattle.plan_runs.specs.Succession.{itself}
use Rattle.plan_runs.specs.Versions.{put_slot, some_hinted}
use Rattle.plan_runs.specs.Guards.{is_current, current_tickets}
use Rattle.plan_runs.specs.Effects.{with_puts, with_value, changed, served_puts, with_ticket, write_effect, hint_effect, ack_effect}
use Rattle.plan_check.specs.Firm.{IsMirrored, IsTwice, IsFirm, FirmSlots, IsFirmEnough, Holding}
use Rattle.plan_runs.specs.Reached.{Reached}
use Rattle.plan_runs.proofs.Changed.{part_changed}
use Rattle.plan_runs.proofs.Lasting.{Extends}
use Rattle.plan_runs.proofs.Filling.{with_puts_more, with_puts_new, served_more, served_owner, served_mirror, at_mirror}
use Rattle.plan_runs.proofs.Passing.{some_is, below_is, passing_ascend, none_twice}
use Rattle.plan_runs.proofs.Serial.{changed_acked, new_put_acked}
use Rattle.plan_check.proofs.Standing.{SlotKeeps, KeepsFirm, TicketsAreDue, twice_stays, same_slot}
use Rattle.plan_runs.proofs.Ticketed.{new_put_ticket, changed_ticket}
use Rattle.plan_check.proofs.Quiet.{quiet_keeps, more_slots}
use Rattle.plan_stage.proofs.Truth.{list_all-all}

-- ---- a put starts

-- a put that comes has no ticket and is not acknowledged
pub start_put_keeps : (ring : RingValue) (plan : List Planned) (w : World) (p : PutRecord) → ((i : ℕ) → p.ticket i ≡ None) → p.acked ≡ false
    → Reached ring plan w → Holding ring plan w
    → Extends w (record w { puts = w.puts ++ p ∷ [] }) → KeepsFirm ring plan w (record w { puts = w.puts ++ p ∷ [] })
start_put_keeps ring plan w p none off r h x = quiet_keeps ring plan w w.is_open w.up (w.puts ++ p ∷ []) w.gets w.stored w.hinted r h x
    (more_slots ring plan w w.is_open w.up w.marked (w.puts ++ p ∷ []) w.gets w.stored w.hinted (λ y t v e. e) (λ y t v e. e))
    (λ v i g e. inl (new_put_ticket w.puts p v i g (none i) e).1)
    (λ v e. inl (new_put_acked w.puts p v off e))

-- ---- a put is written, or kept as a hint

-- a put that is written is at owner and mirror
written_twice : (ring : RingValue) (plan : List Planned) (w : World) (v : ℕ) (s : Slot) (ps : List PutRecord)
    → IsTwice ring plan (record w { stored = served_puts ring plan w s (λ u. u == v); puts = ps }) v s
written_twice ring plan w v s ps = (
  (
    v,
    itself v,
    or_left (served_puts ring plan w s (λ u. u == v) (stage_now ring plan w s).owner.0 s v) (some_hinted ring w s v)
        (served_owner ring plan w s (λ u. u == v) v (eq-eqb v v refl)),
  ),
  by (stage_now ring plan w s).mirror refl,
)
  where
    by : (o : Option NodeId) → (stage_now ring plan w s).mirror ≡ o
        → IsMirrored ring plan (record w { stored = served_puts ring plan w s (λ u. u == v); puts = ps }) v s
    by None e = inl e
    by (Some x) e = inr (
      v,
      itself v,
      or_left (elim (stage_now ring plan w s).mirror [ Some y ↦ served_puts ring plan w s (λ u. u == v) y.0 s v | None ↦ false ])
          (some_hinted ring w s v)
          (at_mirror (stage_now ring plan w s).mirror (λ y. served_puts ring plan w s (λ u. u == v) y s v) x e
          (served_mirror ring plan w s (λ u. u == v) x v e (eq-eqb v v refl))),
    )

-- a put that a declared node keeps for the slot is as good as at both
hinted_twice : (ring : RingValue) (plan : List Planned) (w : World) (v : ℕ) (s : Slot) (x : NodeId) (ps : List PutRecord) → x.0 < length ring.nodes
    → IsTwice ring plan (record w { hinted = with_puts w.hinted x s (λ u. u == v); puts = ps }) v s
hinted_twice ring plan w v s x ps l =
    let here : some_below (length ring.nodes) (λ y. with_puts w.hinted x s (λ u. u == v) y s v) ≡ true =
    some_is (length ring.nodes) (λ y. with_puts w.hinted x s (λ u. u == v) y s v) x.0 l (with_puts_new w.hinted x s (λ u. u == v) v (eq-eqb v v refl)) in (
      (
        v,
        itself v,
        or_right (w.stored (stage_now ring plan w s).owner.0 s v)
            (some_below (length ring.nodes) (λ y. with_puts w.hinted x s (λ u. u == v) y s v)) here,
      ),
      inr (
        v,
        itself v,
        or_right (elim (stage_now ring plan w s).mirror [ Some y ↦ w.stored y.0 s v | None ↦ false ])
            (some_below (length ring.nodes) (λ y. with_puts w.hinted x s (λ u. u == v) y s v)) here,
      ),
    )

-- with a ticket of put n for the slot of index j, and other stores
abbrev given : RingValue → List Planned → World → (ℕ → Slot → ℕ → Bool) → (ℕ → Slot → ℕ → Bool) → ℕ → ℕ → World
given ring plan w b f n j = record w { puts = with_ticket ring plan w n j; stored = b; hinted = f }

-- that ticket is due where the put is at the slot's owner and mirror
given_ticket : (ring : RingValue) (plan : List Planned) (w : World) (b f : ℕ → Slot → ℕ → Bool) (n j : ℕ)
    → IsTwice ring plan (given ring plan w b f n j) n (put_slot ring (given ring plan w b f n j) n j) → TicketsAreDue ring plan w (given ring plan w b f n j)
given_ticket ring plan w b f n j twice v i g e = elim (changed_ticket w.puts n
    (λ x. record x { ticket = with_value x.ticket j (generation plan w (put_slot ring w n j)) }) v i g e) [
      | inl h ↦ inl h
      | inr h ↦ by (i == j) refl h.1 h.2 h.0 h.3
    ]
  where
    u : World
    u = given ring plan w b f n j

    by : (t : Bool) → (i == j) ≡ t → (x : PutRecord) → cond t (Some (generation plan w (put_slot ring w n j))) (x.ticket i) ≡ Some g → v ≡ n
        → ticket_of w v i ≡ x.ticket i → (ticket_of w v i ≡ Some g) ⊎ IsTwice ring plan u v (put_slot ring u v i)
    by false same x k is at = inl (at ∙ k)
    by true same x k is at =
        let place : i ≡ j = eqb-true i j same in
        inr (subst (λ (a : ℕ). IsTwice ring plan u a (put_slot ring u a i)) (sym is)
        (subst (λ (a : ℕ). IsTwice ring plan u n (put_slot ring u n a)) (sym place) twice))

-- a write
pub write_keeps : (ring : RingValue) (plan : List Planned) (w : World) (n j : ℕ) → n < length w.puts → Reached ring plan w → Holding ring plan w
    → Extends w (write_effect ring plan w n j) → KeepsFirm ring plan w (write_effect ring plan w n j)
write_keeps ring plan w n j l r h x = quiet_keeps ring plan w w.is_open w.up (with_ticket ring plan w n j) w.gets b w.hinted r h x
    (more_slots ring plan w w.is_open w.up w.marked (with_ticket ring plan w n j) w.gets b w.hinted
    (λ y t v e. served_more ring plan w s (λ u. u == n) y t v e) (λ y t v e. e))
    (given_ticket ring plan w b w.hinted n j (subst (λ (z : Slot). IsTwice ring plan (write_effect ring plan w n j) n z)
    (sym (same_slot ring w (write_effect ring plan w n j) n j x l)) (written_twice ring plan w n s (with_ticket ring plan w n j))))
    (λ v e. inl (sym (part_changed (λ (y : PutRecord). y.acked) false w.puts n
    (λ y. record y { ticket = with_value y.ticket j (generation plan w (put_slot ring w n j)) }) (λ y. refl) v) ∙ e))
  where
    s : Slot
    s = put_slot ring w n j

    b : ℕ → Slot → ℕ → Bool
    b = served_puts ring plan w s (λ u. u == n)

-- a hint
pub hint_keeps : (ring : RingValue) (plan : List Planned) (w : World) (n j : ℕ) (k : NodeId) → n < length w.puts → k.0 < length ring.nodes
    → Reached ring plan w → Holding ring plan w
    → Extends w (hint_effect ring plan w n j k) → KeepsFirm ring plan w (hint_effect ring plan w n j k)
hint_keeps ring plan w n j k l m r h x = quiet_keeps ring plan w w.is_open w.up (with_ticket ring plan w n j) w.gets w.stored f r h x
    (more_slots ring plan w w.is_open w.up w.marked (with_ticket ring plan w n j) w.gets w.stored f (λ y t v e. e)
    (λ y t v e. with_puts_more w.hinted k s (λ u. u == n) y t v e))
    (given_ticket ring plan w w.stored f n j (subst (λ (z : Slot). IsTwice ring plan (hint_effect ring plan w n j k) n z)
    (sym (same_slot ring w (hint_effect ring plan w n j k) n j x l)) (hinted_twice ring plan w n s k (with_ticket ring plan w n j) m)))
    (λ v e. inl (sym (part_changed (λ (y : PutRecord). y.acked) false w.puts n
    (λ y. record y { ticket = with_value y.ticket j (generation plan w (put_slot ring w n j)) }) (λ y. refl) v) ∙ e))
  where
    s : Slot
    s = put_slot ring w n j

    f : ℕ → Slot → ℕ → Bool
    f = with_puts w.hinted k s (λ u. u == n)

-- ---- a put is acknowledged

-- the put is firm at the slots of its current tickets
pub ack_keeps : (ring : RingValue) (plan : List Planned) (w : World) (n : ℕ) → n < length w.puts → ring.w ≤ current_tickets ring plan w n
    → Reached ring plan w → Holding ring plan w
    → Extends w (ack_effect w n) → KeepsFirm ring plan w (ack_effect w n)
ack_keeps ring plan w n l enough r h x = quiet_keeps ring plan w w.is_open w.up u.puts w.gets w.stored w.hinted r h x slots
    (λ v i g e. inl (sym (part_changed (λ (y : PutRecord). y.ticket i) None w.puts n acks (λ y. refl) v) ∙ e))
    (λ v e. elim (changed_acked w.puts n acks v e) [
      | inl f ↦ inl f
      | inr f ↦ inr (subst (λ (a : ℕ). IsFirmEnough ring plan u a) (sym f) (all, firm, (let e : ring.w ≤ length all = enough in omega arith)))
    ])
  where
    acks : PutRecord → PutRecord
    acks y = record y { acked = true }

    u : World
    u = ack_effect w n

    slots : (s : Slot) → SlotKeeps ring plan w (ack_effect w n) s
    slots =
        more_slots ring plan w w.is_open w.up w.marked (changed w.puts n (λ y. record y { acked = true })) w.gets w.stored w.hinted (λ y t v e. e)
        (λ y t v e. e)

    all : List ℕ
    all = passing_below ring.n (is_current ring plan w n)

    firm : FirmSlots ring plan u n all
    firm = record {
      different = none_twice all (passing_ascend 0 ring.n (is_current ring plan w n));
      within = list_all-all (λ i. nat_lt i ring.n) all (λ i e. (let b = below_is ring.n (is_current ring plan w n) i e in lt-ltb i ring.n b.0));
      firm = λ i e. (
          let b = below_is ring.n (is_current ring plan w n) i e in
          let t = twice_stays ring plan w u (put_slot ring w n i) r x (slots (put_slot ring w n i)) n (h.tickets n i l b.1) in
          subst (λ (s : Slot). IsFirm ring plan u n s) (sym (same_slot ring w u n i x l)) (t.0, λ g. t.1));
    }
