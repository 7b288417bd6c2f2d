-- What an event keeps that is about no step and no chunk. What nodes have for slots only grows, and goes from
-- keepers to those who serve.
use Rattle.std.proofs.Common.{◌≡◌, inl, inr, ◌∙◌, ℕ, ◌<◌, ◌≤◌, Bool, true, false, List, length, Option, Some, None, refl, sym, ap, subst, arith}
use Rattle.std.proofs.lemmas.Bool.{or_right, or_cases, or_left}
use Rattle.ring_names.specs.declared.ids.NodeId.{NodeId}
use Rattle.ring_names.specs.declared.ids.Slot.{Slot}
use Rattle.ring_table.specs.Value.{RingValue}
use Rattle.plan_text.specs.declared.step.Planned.{Planned}
use Rattle.plan_runs.specs.World.{PutRecord, GetRecord, World, some_below, stage_now, generation}
use Rattle.plan_runs.specs.Versions.{put_slot, some_hinted}
use Rattle.plan_runs.specs.Guards.{is_current}
use Rattle.plan_runs.specs.Effects.{without_puts, served_puts}
use Rattle.plan_check.specs.Firm.{IsTwice, Holding}
use Rattle.plan_runs.specs.Reached.{Reached}
use Rattle.plan_runs.proofs.Lasting.{Extends}
use Rattle.plan_runs.proofs.Filling.{served_more, served_owner, served_mirror, at_mirror_more, at_mirror, some_more, kept_or_gone}
use Rattle.plan_runs.proofs.Serial.{acked_exists, ticket_exists, current_ticket, is_current_by}
use Rattle.plan_check.proofs.Standing.{SlotKeeps, KeepsFirm, TicketsAreDue, AcksAreDue, twice_stays, firm_stays, same_slot}

-- ---- tickets and acknowledged puts

-- current tickets are of puts at owner and mirror where generations only rise, and where they stay what is at both stays so
pub tickets_keep : (ring : RingValue) (plan : List Planned) (w u : World) → Reached ring plan w → Holding ring plan w → Extends w u
    → ((s : Slot) → generation plan w s ≤ generation plan u s)
    → ((s : Slot) (v : ℕ) → generation plan u s ≡ generation plan w s → IsTwice ring plan w v s → IsTwice ring plan u v s)
    → TicketsAreDue ring plan w u → (v i : ℕ) → v < length u.puts → is_current ring plan u v i ≡ true → IsTwice ring plan u v (put_slot ring u v i)
tickets_keep ring plan w u r h x rises twice tickets v i l e = elim (tickets v i (generation plan u (put_slot ring u v i)) (current_ticket ring plan u v i e)) [
  | inr t ↦ t
  | inl old ↦ (
      let exists : v < length w.puts = ticket_exists w.puts v i (generation plan u (put_slot ring u v i)) old in
      let same : put_slot ring u v i ≡ put_slot ring w v i = same_slot ring w u v i x exists in
      let moved : generation plan u (put_slot ring u v i) ≡ generation plan u (put_slot ring w v i) = ap (λ (s : Slot). generation plan u s) same in
      let most : generation plan u (put_slot ring u v i) ≤ generation plan w (put_slot ring w v i) =
      (r.tickets v i (generation plan u (put_slot ring u v i)) old).1 in
      let least : generation plan w (put_slot ring w v i) ≤ generation plan u (put_slot ring w v i) = rises (put_slot ring w v i) in
      let equal : generation plan u (put_slot ring w v i) ≡ generation plan w (put_slot ring w v i) = omega arith in
      let current : is_current ring plan w v i ≡ true = is_current_by ring plan w v i (old ∙ ap (λ (g : ℕ). Some g) (moved ∙ equal)) in
      subst (λ (s : Slot). IsTwice ring plan u v s) (sym same) (twice (put_slot ring w v i) v equal (h.tickets v i exists current)))
]

-- ---- events that are about no step and no chunk

-- with other open copies, other nodes up, and other puts, gets and stores
abbrev pub quiet : World → (ℕ → Bool) → (ℕ → Bool) → List PutRecord → List GetRecord → (ℕ → Slot → ℕ → Bool) → (ℕ → Slot → ℕ → Bool) → World
quiet w o a ps gs b f = record w { is_open = o; up = a; puts = ps; gets = gs; stored = b; hinted = f }

-- all is kept where every slot goes on to have what it had, and only tickets and acknowledgements come that are due
pub quiet_keeps : (ring : RingValue) (plan : List Planned) (w : World) (o a : ℕ → Bool) (ps : List PutRecord) (gs : List GetRecord)
    (b f : ℕ → Slot → ℕ → Bool) → Reached ring plan w → Holding ring plan w → Extends w (quiet w o a ps gs b f)
    → ((s : Slot) → SlotKeeps ring plan w (quiet w o a ps gs b f) s) → TicketsAreDue ring plan w (quiet w o a ps gs b f)
    → AcksAreDue ring plan w (quiet w o a ps gs b f) → KeepsFirm ring plan w (quiet w o a ps gs b f)
quiet_keeps ring plan w o a ps gs b f r h x slots tickets acked = record {
  extends = x;
  losses = refl;
  tickets = tickets_keep ring plan w u r h x (λ s. omega arith) (λ s v e t. twice_stays ring plan w u s r x (slots s) v t) tickets;
  firm = λ v i e t. firm_stays ring plan w u (put_slot ring w v i) r x (slots (put_slot ring w v i)) v (acked_exists w.puts v e) (λ g. g) t;
  acked = acked;
}
  where
    u : World
    u = quiet w o a ps gs b f

-- ---- what slots have

-- nodes store and keep what they did, and maybe more
pub more_slots : (ring : RingValue) (plan : List Planned) (w : World) (o a : ℕ → Bool) (m : ℕ → ℕ → Bool) (ps : List PutRecord) (gs : List GetRecord)
    (b f : ℕ → Slot → ℕ → Bool)
    → ((y : ℕ) (t : Slot) (v : ℕ) → w.stored y t v ≡ true → b y t v ≡ true) → ((y : ℕ) (t : Slot) (v : ℕ) → w.hinted y t v ≡ true → f y t v ≡ true)
    → (s : Slot) → SlotKeeps ring plan w (record w { is_open = o; marked = m; up = a; puts = ps; gets = gs; stored = b; hinted = f }) s
more_slots ring plan w o a m ps gs b f stored hinted s = record {
  held = λ v e. elim (or_cases (w.stored owner s v) (some_hinted ring w s v) e) [
    | inl g ↦ or_left (b owner s v) (some_below (length ring.nodes) (λ y. f y s v)) (stored owner s v g)
    | inr g ↦ or_right (b owner s v) (some_below (length ring.nodes) (λ y. f y s v)) (kept v g)
  ];
  alone = λ e. e;
  mirrored = λ x is v e. elim (or_cases (elim mirror [ Some z ↦ w.stored z.0 s v | None ↦ false ]) (some_hinted ring w s v) e) [
    | inl g ↦
        or_left (elim mirror [ Some z ↦ b z.0 s v | None ↦ false ]) (some_below (length ring.nodes) (λ y. f y s v))
        (at_mirror_more mirror (λ y. w.stored y s v) (λ y. b y s v) (λ y i d. stored y.0 s v d) g)
    | inr g ↦ or_right (elim mirror [ Some z ↦ b z.0 s v | None ↦ false ]) (some_below (length ring.nodes) (λ y. f y s v)) (kept v g)
  ];
}
  where
    owner : ℕ
    owner = (stage_now ring plan w s).owner.0

    mirror : Option NodeId
    mirror = (stage_now ring plan w s).mirror

    kept : (v : ℕ) → some_hinted ring w s v ≡ true → some_below (length ring.nodes) (λ y. f y s v) ≡ true
    kept v g = some_more (length ring.nodes) (λ y. w.hinted y s v) (λ y. f y s v) (λ y d. hinted y s v d) g

-- a keeper hands off what it kept for a slot: the slot's owner and mirror have it
pub handed_slots : (ring : RingValue) (plan : List Planned) (w : World) (x : NodeId) (s : Slot) (t : Slot)
    → SlotKeeps ring plan w (record w { stored = served_puts ring plan w s (w.hinted x.0 s); hinted = without_puts w.hinted x s }) t
handed_slots ring plan w x s t = record {
  held = λ v e. elim (or_cases (w.stored owner t v) (some_hinted ring w t v) e) [
    | inl g ↦ or_left (b owner t v) (kept v) (served_more ring plan w s (w.hinted x.0 s) owner t v g)
    | inr g ↦ elim (kept_or_gone (length ring.nodes) w.hinted x s t v g) [
      | inl d ↦
          or_left (b owner t v) (kept v) (subst (λ (z : Slot). b (stage_now ring plan w z).owner.0 z v ≡ true) (sym d.0)
          (served_owner ring plan w s (w.hinted x.0 s) v d.1))
      | inr d ↦ or_right (b owner t v) (kept v) d
    ]
  ];
  alone = λ e. e;
  mirrored = λ y is v e. elim (or_cases (elim mirror [ Some z ↦ w.stored z.0 t v | None ↦ false ]) (some_hinted ring w t v) e) [
    | inl g ↦
        or_left (elim mirror [ Some z ↦ b z.0 t v | None ↦ false ]) (kept v)
        (at_mirror_more mirror (λ z. w.stored z t v) (λ z. b z t v) (λ z i d. served_more ring plan w s (w.hinted x.0 s) z.0 t v d) g)
    | inr g ↦ elim (kept_or_gone (length ring.nodes) w.hinted x s t v g) [
      | inl d ↦ or_left (elim mirror [ Some z ↦ b z.0 t v | None ↦ false ]) (kept v) (at_mirror mirror (λ z. b z t v) y is (at_it y v (d.0) is d.1))
      | inr d ↦ or_right (elim mirror [ Some z ↦ b z.0 t v | None ↦ false ]) (kept v) d
    ]
  ];
}
  where
    b : ℕ → Slot → ℕ → Bool
    b = served_puts ring plan w s (w.hinted x.0 s)

    owner : ℕ
    owner = (stage_now ring plan w t).owner.0

    mirror : Option NodeId
    mirror = (stage_now ring plan w t).mirror

    kept : ℕ → Bool
    kept v = some_below (length ring.nodes) (λ y. without_puts w.hinted x s y t v)

    at_it : (y : NodeId) (v : ℕ) → t ≡ s → (stage_now ring plan w t).mirror ≡ Some y → w.hinted x.0 s v ≡ true → b y.0 t v ≡ true
    at_it y v same is d =
        let here : (stage_now ring plan w s).mirror ≡ Some y = subst (λ (z : Slot). (stage_now ring plan w z).mirror ≡ Some y) same is in
        subst (λ (z : Slot). b y.0 z v ≡ true) (sym same) (served_mirror ring plan w s (w.hinted x.0 s) y v here d)
