-- A chunk that is copied keeps what is held: what is acknowledged and firm is at the mirror once its chunk is given.
use Rattle.std.proofs.Common.{◌≡◌, inl, inr, ◌∙◌, ℕ, ◌+◌, ◌<◌, ◌≤◌, Bool, true, false, List, [], ◌∷◌, length, map, Option, Some, None, refl, sym, ap, subst}
use Rattle.std.proofs.Common.{arith, ltb-true, lt-ltb, eqb-true, eq-eqb}
use Rattle.std.specs.Prelude.{◌==◌, ◌&&◌, nat_lt, nat_le}
use Rattle.std.specs.List.{list_all, list_any}
use Rattle.std.proofs.lemmas.Bool.{and_parts, or_right, and_from, or_cases, or_left}
use Rattle.ring_names.specs.Lists.{has}
use Rattle.ring_names.specs.declared.ids.NodeId.{NodeId}
use Rattle.ring_names.specs.declared.ids.Slot.{Slot}
use Rattle.ring_space.specs.Place.{place_of}
use Rattle.ring_table.specs.Value.{RingValue}
use Rattle.ring_table.specs.Valid.{is_quorum}
use Rattle.plan_text.specs.declared.step.Source.{Source}
use Rattle.plan_text.specs.declared.step.Source.TheVariants.{Owner, Slots}
use Rattle.plan_text.specs.declared.step.Step.TheVariants.{Copy}
use Rattle.plan_text.specs.declared.step.Planned.{Planned}
use Rattle.plan_text.specs.Valid.{is_ring_slot}
use Rattle.plan_stage.specs.Each.{step_at, sibling}
use Rattle.plan_runs.specs.World.{World, key_of_put, is_acked, copy_at, stage_now}
use Rattle.plan_runs.specs.Succession.{Succeeds}
use Rattle.plan_runs.specs.Versions.{put_slot, is_in_chunk, some_hinted, slot_has, IsHeld}
use Rattle.plan_runs.specs.Effects.{with_mark, with_mirror_puts, source_has, is_copied}
use Rattle.plan_check.specs.Firm.{IsGiven, IsMirrored, chunk_of_put, IsFirm, Holding}
use Rattle.plan_runs.specs.Reached.{Reached}
use Rattle.plan_runs.proofs.Filling.{with_mirror_more, with_mirror_new, at_mirror}
use Rattle.plan_runs.proofs.Lasting.{Extends, names_ended, succeeds_stays, succeeds_same_key}
use Rattle.plan_check.proofs.Mirrored.{Holds}
use Rattle.plan_check.proofs.Partakers.{copy_is}
use Rattle.plan_check.proofs.Quiet.{tickets_keep, more_slots}
use Rattle.plan_check.proofs.Quorums.{meet}
use Rattle.plan_runs.proofs.Serial.{acked_exists}
use Rattle.plan_check.proofs.Standing.{SlotKeeps, KeepsFirm, held_exists, hint_exists, held_stays, mirrored_stays, twice_stays, same_chunk}
use Rattle.plan_runs.proofs.Suited.{suits-at}

-- every read meets every write, with as many slots to spare as stores may be lost
pub quorum_more : (n r w loss : ℕ) → is_quorum n r w loss ≡ true → n + loss < r + w
unfolding is_quorum
quorum_more n r w loss h = ltb-true (n + loss) (r + w) (and_parts (nat_le 1 r && nat_le r n && nat_le 1 w && nat_le w n) (nat_lt (n + loss) (r + w)) h).1

-- a test that a listed slot passes
listed_any : (p : ℕ) (test : Slot → Bool) (from : List ℕ) (j : ℕ) → has j from ≡ true → test (record { partition = p; index = j }) ≡ true
    → list_any test (map (λ i. record { partition = p; index = i }) from) ≡ true
listed_any p test [] j h e = absurd cc
listed_any p test (i ∷ from) j h e = elim (or_cases (j == i) (has j from) h) [
  | inl f ↦
      or_left (test (record { partition = p; index = i })) (list_any test (map (λ z. record { partition = p; index = z }) from))
      (subst (λ (z : ℕ). test (record { partition = p; index = z }) ≡ true) (eqb-true j i f) e)
  | inr f ↦
      or_right (test (record { partition = p; index = i })) (list_any test (map (λ z. record { partition = p; index = z }) from))
      (listed_any p test from j f e)
]

-- chunk c of the open copy n of a slot, to the slot's mirror
module _ (ring : RingValue) (plan : List Planned) (k : Holds ring plan) (w : World) (n c : ℕ) (slot : Slot) (from : Source) (r : Reached ring plan w)
    (h : Holding ring plan w) (at : copy_at plan n ≡ Some (slot, from)) where
  -- the world after that
  abbrev pub after_chunk : World
  after_chunk =
      record w {
        marked = with_mark w.marked n c;
        stored = with_mirror_puts w.stored (stage_now ring plan w slot).mirror slot
            (is_copied ring plan w slot from c);
      }

  -- each slot keeps what it has
  slots_keep : (s : Slot) → SlotKeeps ring plan w after_chunk s
  slots_keep s = more_slots ring plan w w.is_open w.up (with_mark w.marked n c) w.puts w.gets after_chunk.stored w.hinted
      (λ y t v e. with_mirror_more w.stored (stage_now ring plan w slot).mirror slot (is_copied ring plan w slot from c) y t v e) (λ y t v e. e) s

  -- a put of the chunk, or a successor, is copied if the source has it
  copies : (v i a : ℕ) → put_slot ring w v i ≡ slot → chunk_of_put ring w v ≡ c → Succeeds w a v → a < length w.puts
      → source_has ring plan w slot from a ≡ true → is_copied ring plan w slot from c a ≡ true
  copies v i a is same s l read =
      let key : key_of_put w a ≡ key_of_put w v = succeeds_same_key w a v s in
      let p : (place_of ring.q (key_of_put w a)).partition ≡ slot.partition = ap (λ (z : List ℕ). (place_of ring.q z).partition) key ∙ ap
      (λ (z : Slot). z.partition) is in
      let q : (place_of ring.q (key_of_put w a)).chunk ≡ c = ap (λ (z : List ℕ). (place_of ring.q z).chunk) key ∙ same in
      and_from (nat_lt a (length w.puts) && is_in_chunk ring w slot c a) (source_has ring plan w slot from a)
      (and_from (nat_lt a (length w.puts)) (is_in_chunk ring w slot c a) (lt-ltb a (length w.puts) l)
      (and_from ((place_of ring.q (key_of_put w a)).partition == slot.partition) ((place_of ring.q (key_of_put w a)).chunk == c) (eq-eqb _ _ p) (eq-eqb _ _ q)))
      read

  -- and so is at the mirror
  comes : (x : Extends w after_chunk) (v i a : ℕ) → put_slot ring w v i ≡ slot → chunk_of_put ring w v ≡ c → Succeeds w a v → a < length w.puts
      → source_has ring plan w slot from a ≡ true → IsMirrored ring plan after_chunk v slot
  comes x v i a is same s l read = by (stage_now ring plan w slot).mirror refl
    where
      by : (o : Option NodeId) → (stage_now ring plan w slot).mirror ≡ o → IsMirrored ring plan after_chunk v slot
      by None e = inl e
      by (Some m) e = inr (
        a,
        succeeds_stays w after_chunk x (names_ended ring plan w r) a v l s,
        or_left (elim (stage_now ring plan w slot).mirror [ Some y ↦ after_chunk.stored y.0 slot a | None ↦ false ]) (some_hinted ring w slot a)
            (at_mirror (stage_now ring plan w slot).mirror (λ y. after_chunk.stored y slot a) m e
            (with_mirror_new w.stored (stage_now ring plan w slot).mirror m slot (is_copied ring plan w slot from c) a e (copies v i a is same s l read))),
      )

  -- a hint for the slot counts for the mirror too
  kept : (x : Extends w after_chunk) (v a : ℕ) → Succeeds w a v → some_hinted ring w slot a ≡ true → IsMirrored ring plan after_chunk v slot
  kept x v a s e = inr (
    a,
    succeeds_stays w after_chunk x (names_ended ring plan w r) a v (hint_exists ring plan w r slot a e) s,
    or_right (elim (stage_now ring plan w slot).mirror [ Some y ↦ after_chunk.stored y.0 slot a | None ↦ false ]) (some_hinted ring w slot a) e,
  )

  -- what an acknowledged put that is firm finds at one of the slots from which the copy reads
  found_listed : (v i : ℕ) (list : List ℕ) → from ≡ Slots list → put_slot ring w v i ≡ slot → is_acked w v ≡ true
      → (a : ℕ) × Succeeds w a v × (a < length w.puts) × (source_has ring plan w slot (Slots list) a ≡ true)
  found_listed v i list e is acked =
      let on : step_at plan n ≡ Some (Copy slot (Slots list)) = copy_is (step_at plan n) slot (Slots list) (at ∙ ap (λ (z : Source). Some (slot, z)) e) in
      let sources = k.sources n slot list on in
      let enough : ring.r ≤ length list = sources.1 in
      let suits = suits-at ring plan k.known.in_turn.suits.steps n (Copy slot (Slots list)) on in
      let inside : list_all (λ j. nat_lt j ring.n) list ≡ true = (and_parts (is_ring_slot ring slot) (list_all (λ j. nat_lt j ring.n) list) suits).1 in
      let f = h.acked v acked in
      let many : ring.w ≤ length f.0 + w.losses = f.2 in
      let spent = r.spent in
      let more = quorum_more ring.n ring.r ring.w ring.loss k.known.is_ring.quorum in
      let m = meet ring.n list f.0 sources.0 f.1.different inside f.1.within (omega arith) in
      let held : IsHeld ring plan w v (put_slot ring w v m.0) = (f.1.firm m.0 m.2).0 in
      let there : put_slot ring w v m.0 ≡ sibling slot m.0 = ap (λ (z : Slot). sibling z m.0) is in
      let has_it : slot_has ring plan w (sibling slot m.0) held.0 ≡ true = subst (λ (z : Slot). slot_has ring plan w z held.0 ≡ true) there held.2 in
      let exists = held_exists ring plan w r (put_slot ring w v m.0) held.0 held.2 in
      (held.0, held.1, exists, listed_any slot.partition (λ s. slot_has ring plan w s held.0) list m.0 m.1 has_it)

  -- a firm put of the chunk comes to the mirror
  given_now : (x : Extends w after_chunk) (v i : ℕ) → is_acked w v ≡ true → put_slot ring w v i ≡ slot → chunk_of_put ring w v ≡ c
      → IsHeld ring plan w v slot → IsMirrored ring plan after_chunk v slot
  given_now x v i acked is same held = by from refl
    where
      by : (q : Source) → from ≡ q → IsMirrored ring plan after_chunk v slot
      by Owner e = elim (or_cases (w.stored (stage_now ring plan w slot).owner.0 slot held.0) (some_hinted ring w slot held.0) held.2) [
        | inl g ↦
            comes x v i held.0 is same held.1 (r.stored (stage_now ring plan w slot).owner.0 slot held.0 g).0
            (subst (λ (z : Source). source_has ring plan w slot z held.0 ≡ true) (sym e) g)
        | inr g ↦ kept x v held.0 held.1 g
      ]
      by (Slots list) e =
          let f = found_listed v i list e is acked in
          comes x v i f.0 is same f.1 f.2 (subst (λ (z : Source). source_has ring plan w slot z f.0 ≡ true) (sym e) f.3)

  -- so what is firm stays firm
  firm_kept : (x : Extends w after_chunk) (v i : ℕ) → is_acked w v ≡ true → IsFirm ring plan w v (put_slot ring w v i)
      → IsFirm ring plan after_chunk v (put_slot ring w v i)
  firm_kept x v i acked f = (held_stays ring plan w after_chunk s r x (slots_keep s).held v f.0, mirrored)
    where
      s : Slot
      s = put_slot ring w v i

      same : chunk_of_put ring after_chunk v ≡ chunk_of_put ring w v
      same = same_chunk ring w after_chunk v x (acked_exists w.puts v acked)

      mirrored : IsGiven plan after_chunk s (chunk_of_put ring after_chunk v) → IsMirrored ring plan after_chunk v s
      mirrored g = elim (or_cases ((g.0 == n) && (chunk_of_put ring after_chunk v == c)) (w.marked g.0 (chunk_of_put ring after_chunk v)) g.3) [
        | inr old ↦ mirrored_stays ring plan w after_chunk s r x (slots_keep s) v (f.1 (subst (λ (d : ℕ). IsGiven plan w s d) same (g.0, g.1, g.2, old, g.4)))
        | inl new ↦ (
            let b = and_parts (g.0 == n) (chunk_of_put ring after_chunk v == c) new in
            let copy : Some (s, g.1) ≡ Some (slot, from) = sym g.2 ∙ ap (copy_at plan) (eqb-true g.0 n b.0) ∙ at in
            let is : s ≡ slot = (let p : (s, g.1) ≡ (slot, from) = cc in ap (λ (z : Slot × Source). z.0) p) in
            let chunk : chunk_of_put ring w v ≡ c = sym same ∙ eqb-true (chunk_of_put ring after_chunk v) c b.1 in
            subst (λ (z : Slot). IsMirrored ring plan after_chunk v z) (sym is)
            (given_now x v i acked is chunk (subst (λ (z : Slot). IsHeld ring plan w v z) is f.0)))
      ]

  -- and all is kept
  pub chunk_keeps : Extends w after_chunk → KeepsFirm ring plan w after_chunk
  chunk_keeps x = record {
    extends = x;
    losses = refl;
    tickets =
        tickets_keep ring plan w after_chunk r h x (λ s. omega arith) (λ s v e t. twice_stays ring plan w after_chunk s r x (slots_keep s) v t)
        (λ v i g e. inl e);
    firm = λ v i e f. firm_kept x v i e f;
    acked = λ v e. inl e;
  }
