-- Whether a node stores a put for a slot, by the versions that are kept.
use Rattle.std.proofs.Common.{◌≡◌, inl, inr, ◌∙◌, ℕ, ◌<◌, Bool, true, false, List, [], ◌∷◌, length, refl, sym, ap, subst}
use Rattle.std.specs.Prelude.{◌↔◌, ◌&&◌, IsTrue, Option, Some, None, option_map, slice_get}
use Rattle.std.proofs.lemmas.Bool.{and_parts, and_from, or_cases, or_left, or_right}
use Rattle.std.proofs.lemmas.Option.{slice_get_within}
use Rattle.std.proofs.lemmas.Slice.Eq.{bytes_eq-Decides}
use Rattle.ring_names.specs.declared.ids.Slot.{Slot}
use Rattle.ring_table.specs.Value.{RingValue}
use Rattle.ring_clock.specs.declared.entry.Entry.{Entry}
use Rattle.ring_clock.specs.Clock.{IsAtMost}
use Rattle.ring_versions.specs.declared.version.Version.{Version}
use Rattle.ring_versions.specs.Versions.{Covers}
use Rattle.ring_versions.proofs.Members.{covers_down}
use Rattle.plan_text.specs.declared.step.Planned.{Planned}
use Rattle.plan_runs.specs.World.{PutRecord, World, some_below, slot_at, key_of_put, is_of_key}
use Rattle.plan_runs.specs.Succession.{Succeeds, itself, succeeds}
use Rattle.plan_runs.specs.Versions.{put_slot}
use Rattle.plan_runs.proofs.Lasting.{succeeds_same_key}
use Rattle.plan_runs.proofs.Passing.{some_found, some_is}
use Rattle.plan_runs.proofs.Succeeding.{is_succeeds, same_or_put, succeeds_is}
use Rattle.ring_space.specs.Place.{place_of}
use Rattle.ring_space.specs.declared.found.Place.{Place}
use Rattle.store_parts.specs.declared.puts.PutNow.{PutNow}
use Rattle.store_parts.specs.PutsMeet.{clock_in, clock_at}
use Rattle.store_parts.specs.Shows.{Shows, value_of}
use Rattle.store_parts.specs.Clocks.{AreClocksOf}
use Rattle.store_parts.specs.Kept.{Kept, Tells}
use Rattle.store_parts.proofs.ClocksOrder.{above, tells}
use Rattle.store_parts.proofs.StoreInWorld.{reached_of}
use Rattle.ring_core.specs.Mirrors.{is_stored}
use Rattle.ring_core.proofs.SlotHoldsPut.{place_is, put_told}

-- ---- the test

stored_is : (w : World) (x : ℕ) (slot : Slot) (v : ℕ) → is_stored w x slot v ≡ true → (u : ℕ) × Succeeds w u v × (w.stored x slot u ≡ true)
stored_is w x slot v h = elim (or_cases (w.stored x slot v) (some_below (length w.puts) (λ u. succeeds w u v && w.stored x slot u)) h) [
  | inl f ↦ (v, itself v, f)
  | inr f ↦ (
      let s = some_found (length w.puts) (λ u. succeeds w u v && w.stored x slot u) f in
      let b = and_parts (succeeds w s.0 v) (w.stored x slot s.0) s.2 in
      (s.0, succeeds_is w s.0 v b.0, b.1))
]

is_stored_from : (w : World) (x : ℕ) (slot : Slot) (v u : ℕ) → Succeeds w u v → w.stored x slot u ≡ true → is_stored w x slot v ≡ true
is_stored_from w x slot v u s h = elim (same_or_put w u v s) [
  | inl e ↦ or_left (w.stored x slot v) (some_below (length w.puts) (λ u. succeeds w u v && w.stored x slot u)) (subst (λ (z : ℕ). w.stored x slot z ≡ true) e h)
  | inr l ↦ or_right (w.stored x slot v) (some_below (length w.puts) (λ u. succeeds w u v && w.stored x slot u))
      (some_is (length w.puts) (λ u. succeeds w u v && w.stored x slot u) u l (and_from (succeeds w u v) (w.stored x slot u) (is_succeeds w u v s) h))
]

module _ (ring : RingValue) (plan : List Planned) (k : Kept) (w : World) (m : Tells ring plan k w) where
  -- if versions show a node's puts of a key, they cover a put's clock exactly if the node stores the put or a successor
  covers_told : (x v : ℕ) (slot : Slot) → v < length w.puts → (is_stored w x slot v ≡ true) ↔ Covers (k.stored x slot (key_of_put w v)) (clock_at k.puts v)
  covers_told x v slot exists = (
    λ h. (
        let s = stored_is w x slot v h in
        let l = ((reached_of ring plan k w m).stored x slot s.0 s.2).0 in
        let of : is_of_key w key s.0 ≡ true = (bytes_eq-Decides (key_of_put w s.0) key).1 (succeeds_same_key w s.0 v s.1) in
        covers_down held (clock v) (clock s.0) (above w clock made s.0 v l s.1) (shown.covers s.0 (and_from (w.stored x slot s.0) (is_of_key w key s.0) s.2 of))),
    λ c. (
        let d = shown.drawn c.0 c.1 in
        let b = and_parts (w.stored x slot c.0.put) (is_of_key w key c.0.put) d.0 in
        let le : IsAtMost (clock v) (clock c.0.put) = subst (λ (z : List Entry). IsAtMost (clock v) z) d.1 c.2 in
        let same : key_of_put w c.0.put ≡ key_of_put w v = (bytes_eq-Decides (key_of_put w c.0.put) key).0 b.1 in
        is_stored_from w x slot v c.0.put ((tells w clock made c.0.put v ((reached_of ring plan k w m).stored x slot c.0.put b.0).0 exists same).0 le) b.0),
  )
    where
      key : List ℕ
      key = key_of_put w v

      clock : ℕ → List Entry
      clock = clock_at k.puts

      held : List Version
      held = k.stored x slot key

      made : AreClocksOf w clock
      made = m.puts.clocks

      shown : Shows clock (value_of w) held (λ u. w.stored x slot u && is_of_key w key u)
      shown = m.stored x slot key

  -- the key of a put that is kept
  key_told : (v : ℕ) (put : PutNow) (key : List ℕ) → slice_get k.puts v ≡ Some put → slice_get k.keys put.key ≡ Some key → key ≡ key_of_put w v
  key_told v put key at keyed =
      let t = put_told ring plan k w m v put at in
      let same : key ≡ t.0.key = (let e = sym keyed ∙ t.2.key in cc) in
      same ∙ sym (ap (λ (o : Option PutRecord). elim o as (λ _. List ℕ) [ Some x ↦ x.key | None ↦ [] ]) t.1)

  -- the slot of that index where its key lies
  slot_told : (v i : ℕ) (put : PutNow) (key : List ℕ) (place : Place) → slice_get k.puts v ≡ Some put → slice_get k.keys put.key ≡ Some key → place ≡ place_of ring.q key
      → record { partition = place.partition; index = i } ≡ put_slot ring w v i
  slot_told v i put key place at keyed lies =
      ap (λ (p : ℕ). slot_at p i) (ap (λ (z : Place). z.partition) lies ∙ ap (λ (bs : List ℕ). (place_of ring.q bs).partition) (key_told v put key at keyed))

  -- the same by only the key's number
  pub place_told : (v i : ℕ) (put : PutNow) (place : Place) → slice_get k.puts v ≡ Some put → option_map (place_of ring.q) (slice_get k.keys put.key) ≡ Some place
      → record { partition = place.partition; index = i } ≡ put_slot ring w v i
  place_told v i put place at lies =
      let t = put_told ring plan k w m v put at in
      slot_told v i put t.0.key place at t.2.key (place_is ring.q k.keys put.key t.0.key place lies t.2.key)

  -- the same of a put that is kept, its version's clock, and the place of its key
  pub stored_kept : (x v i : ℕ) (put : PutNow) (version : Version) (key : List ℕ) (place : Place) (a : Bool) → slice_get k.puts v ≡ Some put → put.version ≡ version ∷ []
      → slice_get k.keys put.key ≡ Some key → place ≡ place_of ring.q key
      → (IsTrue a ↔ Covers (k.stored x (record { partition = place.partition; index = i }) key) version.clock)
      → a ≡ is_stored w x (put_slot ring w v i) v
  stored_kept x v i put version key place a at one keyed lies covers =
      let t = put_told ring plan k w m v put at in
      let of = key_told v put key at keyed in
      let is = slot_told v i put key place at keyed lies in
      let clock : version.clock ≡ clock_at k.puts v = sym (ap (λ (o : Option PutNow). elim o as (λ _. List Entry) [ Some p ↦ clock_in p.version | None ↦ [] ]) at ∙ ap clock_in one) in
      let law = covers_told x v (put_slot ring w v i) (slice_get_within w.puts v t.0 t.1) in
      both a (is_stored w x (put_slot ring w v i) v) (Covers (k.stored x (record { partition = place.partition; index = i }) key) version.clock) covers
      (rw (is, of, clock) law)
    where
      both : (a b : Bool) (C : Type 0) → (IsTrue a ↔ C) → ((b ≡ true) ↔ C) → a ≡ b
      both true b C f g = sym (g.1 (f.0 refl))
      both false true C f g = absurd (let h = f.1 (g.0 refl) in cc)
      both false false C f g = refl
