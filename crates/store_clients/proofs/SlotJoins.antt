-- What the joins of the clocks of a slot's versions tell: which versions are covered.
use Rattle.std.proofs.Common.{◌≡◌, ◌⊎◌, inl, inr, ◌∙◌, ℕ, ◌<◌, ◌≤◌, Bool, List, [], ◌∷◌, length, refl, sym, ap, subst, arith}
use Rattle.std.specs.Prelude.{◌&&◌, Option, Some, None}
use Rattle.std.proofs.lemmas.Bool.{and_parts, cases_lt}
use Rattle.std.proofs.lemmas.Bool.Decides.{eqb_tells}
use Rattle.std.proofs.lemmas.Slice.Eq.{bytes_eq-Decides}
use Rattle.ring_names.specs.declared.ids.Slot.{Slot}
use Rattle.ring_table.specs.Value.{RingValue}
use Rattle.ring_clock.specs.declared.entry.Entry.{Entry}
use Rattle.ring_clock.specs.Clock.{counter, IsAtMost}
use Rattle.ring_versions.specs.declared.version.Version.{Version}
use Rattle.ring_versions.specs.Versions.{IsIn, Covers, IsApart, IsMerge}
use Rattle.plan_text.specs.declared.step.Planned.{Planned}
use Rattle.plan_runs.specs.World.{World, key_of_put, writer_of, is_of_key}
use Rattle.store_parts.specs.declared.slots.SlotNow.{SlotNow}
use Rattle.store_parts.specs.Slots.{slot_now}
use Rattle.store_parts.specs.Kept.{Kept, Tells}
use Rattle.store_parts.specs.PutsMeet.{clock_at}
use Rattle.store_parts.specs.Shows.{Shows, ArePutsOf, value_of}
use Rattle.store_parts.proofs.ClocksOrder.{facts, own_tells}
use Rattle.store_parts.proofs.StoreInWorld.{reached_of}
use Rattle.store_clients.specs.Keepers.{IsAmong, JoinsTell, JoinIsAtMost}
use Rattle.store_clients.specs.Looks.{owned_at}

-- ---- whether a version covers a clock

-- a counter of c is above d's, or each one that these entries have is not
lesser : (c d es : List Entry) → (IsAtMost c d → ⊥) ⊎ ((w : ℕ) → (counter es w ≡ 0) ⊎ (counter c w ≤ counter d w))
lesser c d [] = inr (λ w. inl refl)
lesser c d (e ∷ es) = elim (cases_lt (counter d e.writer.0) (counter c e.writer.0)) [
  | inl more ↦ inl (λ most. (let m = most e.writer.0 in omega arith))
  | inr least ↦ elim (lesser c d es) [
    | inl apart ↦ inl apart
    | inr rest ↦ inr (λ w. elim (eqb_tells e.writer.0 w) [
      | inl t ↦ inr (subst (λ (x : ℕ). counter c x ≤ counter d x) t.1 least)
      | inr t ↦ elim (rest w) [ inl none ↦ inl (rw t.0 none) | inr most ↦ inr most ]
    ])
  ]
]

most_or : (c d : List Entry) → (IsAtMost c d → ⊥) ⊎ IsAtMost c d
most_or c d = elim (lesser c d c) [ inl apart ↦ inl apart | inr each ↦ inr (λ w. elim (each w) [ inl none ↦ omega arith | inr most ↦ most ]) ]

covered_or : (xs : List Version) (k : List Entry) → (Covers xs k → ⊥) ⊎ Covers xs k
covered_or [] k = inl (λ c. c.1)
covered_or (x ∷ xs) k = elim (most_or k x.clock) [
  | inl apart ↦ elim (covered_or xs k) [
    | inl none ↦ inl (λ c. elim c.1 [ inl is ↦ apart (subst (λ (y : Version). IsAtMost k y.clock) (sym is) c.2) | inr more ↦ none (c.0, more, c.2) ])
    | inr c ↦ inr (c.0, inr c.1, c.2)
  ]
  | inr most ↦ inr (x, inl refl, most)
]

-- ---- versions that are passed over

-- where the join of what a node has is at most that of all, a merge of it leaves all as it is
pub merge_told : (these : List Version) (others : ℕ → List Version) (all : List Version) (x : ℕ) → JoinsTell these others → ((v : Version) → IsIn v all → IsAmong these others v) → JoinIsAtMost (others x) all
    → IsApart all → IsMerge all (others x) all
merge_told these others all x tells drawn joins apart = record {
  drawn = λ v i. inl i;
  covers = λ k. (
    λ c. inl c,
    λ h. elim h [
      | inl c ↦ c
      | inr c ↦ elim (covered_or all c.0.clock) [
        | inl none ↦ absurd (tells c.0 all joins.1 (inr (x, c.1)) drawn joins.3 (λ w. (let a = joins.2.above c.0.clock (c.0, c.1, refl) w in let b = joins.4 w in omega arith)) none)
        | inr d ↦ (d.0, d.1, λ w. (let a = c.2 w in let b = d.2 w in omega arith))
      ]
    ],
  );
  apart = apart;
}

-- what tells about versions tells about their copy
pub tells_copy : (these mid : List Version) (others : ℕ → List Version) → IsMerge [] these mid → JoinsTell these others → JoinsTell mid others
tells_copy these mid others copied tells v some join is drawn =
    let back : (x : Version) → IsAmong mid others x → IsAmong these others x = λ x h. elim h [
      | inl old ↦ elim (copied.drawn x old) [ inl none ↦ absurd none | inr mine ↦ inl mine ]
      | inr new ↦ inr new
    ] in
    tells v some join (back v is) (λ x i. back x (drawn x i))

-- ---- the clocks of puts

module _ (ring : RingValue) (plan : List Planned) (k : Kept) (w : World) (m : Tells ring plan k w) (slot : Slot) (key : List ℕ) where
  -- it is a version of a put of the key
  abbrev IsOfPut : Version → Type 0
  IsOfPut x = (x.put < length w.puts) × (key_of_put w x.put ≡ key) × (x.clock ≡ clock_at k.puts x.put)

  shown : (held : List Version) (test : ℕ → Bool) → ArePutsOf w test → Shows (clock_at k.puts) (value_of w) held (λ v. test v && is_of_key w key v) → (x : Version) → IsIn x held → IsOfPut x
  shown held test puts s x i =
      let d = s.drawn x i in
      let b = and_parts (test x.put) (is_of_key w key x.put) d.0 in
      (puts x.put b.0, (bytes_eq-Decides (key_of_put w x.put) key).0 b.1, d.1)

  owned : (o : Option SlotNow) (x : Version) → IsIn x (elim o as (λ _. List Version) [ Some s ↦ k.stored s.owner.0 slot key | None ↦ [] ]) → IsOfPut x
  owned None x i = absurd i
  owned (Some s) x i = shown (k.stored s.owner.0 slot key) (w.stored s.owner.0 slot) (λ v t. ((reached_of ring plan k w m).stored s.owner.0 slot v t).0) (m.stored s.owner.0 slot key) x i

  put_of : (x : Version) → IsAmong (owned_at k.rows k.stored slot key) (λ y. k.hinted y slot key) x → IsOfPut x
  put_of x h = elim h [
    | inl old ↦ owned (slot_now k.rows slot) x old
    | inr new ↦ shown (k.hinted new.0 slot key) (w.hinted new.0 slot) (λ v t. ((reached_of ring plan k w m).hinted new.0 slot v t).0) (m.hinted new.0 slot key) x new.1
  ]

  -- one of the versions has the join's counter of the put's writer, so that its put knows the put
  pub joins_tell : JoinsTell (owned_at k.rows k.stored slot key) (λ y. k.hinted y slot key)
  joins_tell v some join is drawn j most none =
      let clock = clock_at k.puts in
      let p = put_of v is in
      let a = writer_of w v.put in
      let own = (facts w clock m.puts.clocks v.put p.0).some in
      let mine : counter v.clock a ≡ counter (clock v.put) a = ap (λ (c : List Entry). counter c a) p.2 in
      let up = most a in
      elim (j.from a) [
        | inl zero ↦ (let z : counter join a ≡ 0 = zero in omega arith)
        | inr x ↦ (
            let u = x.1.0 in
            let q = put_of u (drawn u x.1.1) in
            let theirs : counter join a ≡ counter (clock u.put) a = sym x.2 ∙ ap (λ (c : List Entry). counter c a) (sym x.1.2 ∙ q.2) in
            let at_most = own_tells w clock m.puts.clocks u.put v.put q.0 p.0 (q.1 ∙ sym p.1) (omega arith) in
            none (u, x.1.1, subst (λ (c : List Entry). IsAtMost c u.clock) (sym p.2) (subst (λ (c : List Entry). IsAtMost (clock v.put) c) (sym q.2) at_most)))
      ]
