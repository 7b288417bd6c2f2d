-- What is held and mirrored stays so if a slot's nodes and keepers go on to have what they had.
use Rattle.std.proofs.Common.{◌≡◌, ◌⊎◌, inl, inr, ℕ, ◌+◌, ◌<◌, ◌≤◌, Bool, true, false, refl, List, length, Option, Some, None, sym, ap, subst, arith}
use Rattle.std.proofs.lemmas.Bool.{or_cases}
use Rattle.ring_names.specs.declared.ids.NodeId.{NodeId}
use Rattle.ring_names.specs.declared.ids.Slot.{Slot}
use Rattle.ring_space.specs.Place.{place_of}
use Rattle.ring_table.specs.Value.{RingValue}
use Rattle.plan_text.specs.declared.step.Planned.{Planned}
use Rattle.plan_runs.specs.World.{World, is_acked, ticket_of, stage_now, slot_at}
use Rattle.plan_runs.specs.Succession.{Succeeds}
use Rattle.plan_runs.specs.Versions.{put_slot, some_hinted, slot_has, IsHeld}
use Rattle.plan_runs.specs.Guards.{is_current}
use Rattle.plan_check.specs.Firm.{IsGiven, mirror_has, IsMirrored, IsTwice, chunk_of_put, IsFirm, FirmSlots, IsFirmEnough, Holding}
use Rattle.plan_runs.specs.Reached.{Reached}
use Rattle.plan_runs.proofs.Lasting.{Extends, names_ended, succeeds_stays}
use Rattle.plan_runs.proofs.Passing.{some_found}
use Rattle.plan_runs.proofs.Serial.{acked_exists}

-- some put that succeeds v passes the test
abbrev pub Successor : World → ℕ → (ℕ → Bool) → Type 0
Successor w v test = (u : ℕ) × Succeeds w u v × (test u ≡ true)

-- ---- what a slot has, exists

-- a put that is kept as a hint exists
pub hint_exists : (ring : RingValue) (plan : List Planned) (w : World) → Reached ring plan w → (slot : Slot) (a : ℕ) → some_hinted ring w slot a ≡ true
    → a < length w.puts
hint_exists ring plan w r slot a h = (let s = some_found (length ring.nodes) (λ x. w.hinted x slot a) h in (r.hinted s.0 slot a s.2).0)

-- so does one that a slot's owner or keepers have
pub held_exists : (ring : RingValue) (plan : List Planned) (w : World) → Reached ring plan w → (slot : Slot) (a : ℕ) → slot_has ring plan w slot a ≡ true
    → a < length w.puts
held_exists ring plan w r slot a h = elim (or_cases (w.stored (stage_now ring plan w slot).owner.0 slot a) (some_hinted ring w slot a) h) [
  | inl e ↦ (r.stored (stage_now ring plan w slot).owner.0 slot a e).0
  | inr e ↦ hint_exists ring plan w r slot a e
]

-- and one that its mirror or keepers have
mirror_exists : (ring : RingValue) (plan : List Planned) (w : World) → Reached ring plan w → (slot : Slot) (a : ℕ) → mirror_has ring plan w slot a ≡ true
    → a < length w.puts
mirror_exists ring plan w r slot a h = elim (or_cases (elim (stage_now ring plan w slot).mirror [ Some x ↦ w.stored x.0 slot a | None ↦ false ])
    (some_hinted ring w slot a) h) [
      | inl e ↦ stored_at (stage_now ring plan w slot).mirror e
      | inr e ↦ hint_exists ring plan w r slot a e
    ]
  where
    stored_at : (o : Option NodeId) → (elim o [ Some x ↦ w.stored x.0 slot a | None ↦ false ]) ≡ true → a < length w.puts
    stored_at None e = absurd cc
    stored_at (Some x) e = (r.stored x.0 slot a e).0

-- ---- one slot

-- the slot goes on to have the puts that it had. Its mirror, if there still is one, goes on to have the puts
-- that the mirror had
pub record SlotKeeps (ring : RingValue) (plan : List Planned) (w u : World) (slot : Slot) : Type 0 where
  pub held : (a : ℕ) → slot_has ring plan w slot a ≡ true → slot_has ring plan u slot a ≡ true
  pub alone : (stage_now ring plan w slot).mirror ≡ None → (stage_now ring plan u slot).mirror ≡ None
  pub mirrored : (x : NodeId) → (stage_now ring plan w slot).mirror ≡ Some x → (a : ℕ) → mirror_has ring plan w slot a ≡ true
      → mirror_has ring plan u slot a ≡ true

-- a put that succeeds v and passed a test passes another one now
pub successor_stays : (ring : RingValue) (plan : List Planned) (w u : World) → Reached ring plan w → Extends w u → (v : ℕ) (P Q : ℕ → Bool)
    → ((a : ℕ) → P a ≡ true → (a < length w.puts) × (Q a ≡ true)) → Successor w v P → Successor u v Q
successor_stays ring plan w u r x v P Q f h = (let g = f h.0 h.2 in (h.0, succeeds_stays w u x (names_ended ring plan w r) h.0 v g.0 h.1, g.1))

-- what is held stays held
pub held_stays : (ring : RingValue) (plan : List Planned) (w u : World) (slot : Slot) → Reached ring plan w → Extends w u
    → ((a : ℕ) → slot_has ring plan w slot a ≡ true → slot_has ring plan u slot a ≡ true)
    → (v : ℕ) → IsHeld ring plan w v slot → IsHeld ring plan u v slot
held_stays ring plan w u slot r x more v h =
    successor_stays ring plan w u r x v (slot_has ring plan w slot) (slot_has ring plan u slot) (λ a e. (held_exists ring plan w r slot a e, more a e)) h

-- what is mirrored, and some mirror is there, is so by a put that is there
pub mirrored_by : (ring : RingValue) (plan : List Planned) (w u : World) (slot : Slot) → Reached ring plan w → Extends w u → (v : ℕ) (Q : ℕ → Bool)
    → ((a : ℕ) → mirror_has ring plan w slot a ≡ true → Q a ≡ true)
    → Successor w v (mirror_has ring plan w slot) → Successor u v Q
mirrored_by ring plan w u slot r x v Q more h =
    successor_stays ring plan w u r x v (mirror_has ring plan w slot) Q (λ a e. (mirror_exists ring plan w r slot a e, more a e)) h

-- and what is mirrored stays mirrored
pub mirrored_stays : (ring : RingValue) (plan : List Planned) (w u : World) (slot : Slot) → Reached ring plan w → Extends w u → SlotKeeps ring plan w u slot
    → (v : ℕ) → IsMirrored ring plan w v slot → IsMirrored ring plan u v slot
mirrored_stays ring plan w u slot r x k v h = by (stage_now ring plan w slot).mirror refl
  where
    by : (o : Option NodeId) → (stage_now ring plan w slot).mirror ≡ o → IsMirrored ring plan u v slot
    by None e = inl (k.alone e)
    by (Some y) e = elim h [
      | inl none ↦ inl (k.alone none)
      | inr s ↦ inr (mirrored_by ring plan w u slot r x v (mirror_has ring plan u slot) (k.mirrored y e) s)
    ]

-- so does what is at both
pub twice_stays : (ring : RingValue) (plan : List Planned) (w u : World) (slot : Slot) → Reached ring plan w → Extends w u → SlotKeeps ring plan w u slot
    → (v : ℕ) → IsTwice ring plan w v slot → IsTwice ring plan u v slot
twice_stays ring plan w u slot r x k v h = (held_stays ring plan w u slot r x k.held v h.0, mirrored_stays ring plan w u slot r x k v h.1)

-- the chunk of a put that is there stays the same
pub same_chunk : (ring : RingValue) (w u : World) (v : ℕ) → Extends w u → v < length w.puts → chunk_of_put ring u v ≡ chunk_of_put ring w v
same_chunk ring w u v x l = ap (λ (k : List ℕ). (place_of ring.q k).chunk) (x.key v l)

-- so do its slots
pub same_slot : (ring : RingValue) (w u : World) (v i : ℕ) → Extends w u → v < length w.puts → put_slot ring u v i ≡ put_slot ring w v i
same_slot ring w u v i x l = ap (λ (k : List ℕ). slot_at (place_of ring.q k).partition i) (x.key v l)

-- what is firm stays firm if no chunk is given that was not given before
pub firm_stays : (ring : RingValue) (plan : List Planned) (w u : World) (slot : Slot) → Reached ring plan w → Extends w u → SlotKeeps ring plan w u slot
    → (v : ℕ) → v < length w.puts
    → (IsGiven plan u slot (chunk_of_put ring w v) → IsGiven plan w slot (chunk_of_put ring w v)) → IsFirm ring plan w v slot → IsFirm ring plan u v slot
firm_stays ring plan w u slot r x k v l given h = (
  held_stays ring plan w u slot r x k.held v h.0,
  λ g. mirrored_stays ring plan w u slot r x k v (h.1 (given (subst (λ (c : ℕ). IsGiven plan u slot c) (same_chunk ring w u v x l) g))),
)

-- ---- one event

-- tickets were there before, or their puts are at owner and mirror
abbrev pub TicketsAreDue : RingValue → List Planned → World → World → Type 0
TicketsAreDue ring plan w u = (v i g : ℕ) → ticket_of u v i ≡ Some g → (ticket_of w v i ≡ Some g) ⊎ IsTwice ring plan u v (put_slot ring u v i)

-- acknowledged puts were so before, or are firm enough
abbrev pub AcksAreDue : RingValue → List Planned → World → World → Type 0
AcksAreDue ring plan w u = (v : ℕ) → is_acked u v ≡ true → (is_acked w v ≡ true) ⊎ IsFirmEnough ring plan u v

-- what every event but a loss leaves so. No node loses its data, current tickets are of puts at owner and
-- mirror, and what was firm stays firm. An acknowledged put was so before or is firm enough
pub record KeepsFirm (ring : RingValue) (plan : List Planned) (w u : World) : Type 0 where
  pub extends : Extends w u
  pub losses : u.losses ≡ w.losses
  pub tickets : (v i : ℕ) → v < length u.puts → is_current ring plan u v i ≡ true → IsTwice ring plan u v (put_slot ring u v i)
  pub firm : (v i : ℕ) → is_acked w v ≡ true → IsFirm ring plan w v (put_slot ring w v i) → IsFirm ring plan u v (put_slot ring w v i)
  pub acked : AcksAreDue ring plan w u

-- slots at which an acknowledged put is firm go on to be such
pub slots_stay : (ring : RingValue) (plan : List Planned) (w u : World) (v : ℕ) (slots : List ℕ) → KeepsFirm ring plan w u → is_acked w v ≡ true
    → FirmSlots ring plan w v slots → FirmSlots ring plan u v slots
slots_stay ring plan w u v slots k a f = record {
  different = f.different;
  within = f.within;
  firm = λ i h. subst (λ (s : Slot). IsFirm ring plan u v s) (sym (same_slot ring w u v i k.extends (acked_exists w.puts v a))) (k.firm v i a (f.firm i h));
}

-- so acknowledged puts stay firm enough
pub keeps_holding : (ring : RingValue) (plan : List Planned) (w u : World) → KeepsFirm ring plan w u → Holding ring plan w → Holding ring plan u
keeps_holding ring plan w u k h = record {
  tickets = k.tickets;
  acked = λ v e. elim (k.acked v e) [
    | inr enough ↦ enough
    | inl a ↦ (
        let f = h.acked v a in
        let l : ring.w ≤ length f.0 + w.losses = f.2 in
        let same = k.losses in
        (f.0, slots_stay ring plan w u v f.0 k a f.1, omega arith))
  ];
}
