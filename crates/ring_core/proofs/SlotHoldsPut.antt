-- Whether a slot holds a put, by the versions that are kept.
use Rattle.std.proofs.Common.{◌≡◌, ◌⊎◌, inl, inr, ◌∙◌, ℕ, ◌<◌, Bool, true, false, List, [], ◌∷◌, length, refl, sym, ap, subst, arith}
use Rattle.std.specs.Prelude.{◌↔◌, ◌&&◌, ◌||◌, IsTrue, Option, Some, None, option_map, slice_get}
use Rattle.std.proofs.lemmas.Bool.{and_parts}
use Rattle.std.proofs.lemmas.Option.{slice_get_within}
use Rattle.ring_names.specs.declared.ids.NodeId.{NodeId}
use Rattle.ring_names.specs.declared.ids.Slot.{Slot}
use Rattle.ring_table.specs.Value.{RingValue}
use Rattle.ring_clock.specs.declared.entry.Entry.{Entry}
use Rattle.ring_versions.specs.declared.version.Version.{Version}
use Rattle.ring_versions.specs.Versions.{Covers}
use Rattle.plan_text.specs.declared.step.Planned.{Planned}
use Rattle.plan_text.specs.Valid.{is_ring_slot}
use Rattle.plan_runs.specs.World.{PutRecord, World, slot_at, stage_now, key_of_put, is_of_key}
use Rattle.plan_runs.specs.Versions.{put_slot, is_held}
use Rattle.store_parts.specs.Shows.{Shows, value_of}
use Rattle.store_parts.proofs.SlotHolds.{held}
use Rattle.store_parts.specs.KeyTable.{KeyTable}
use Rattle.store_parts.specs.declared.puts.PutNow.{PutNow}
use Rattle.ring_space.specs.Place.{place_of}
use Rattle.ring_space.specs.declared.found.Place.{Place}
use Rattle.store_parts.specs.PutsMeet.{PutMeets, clock_in, clock_at}
use Rattle.store_parts.proofs.PutsTests.{both_puts}
use Rattle.store_parts.specs.Kept.{Kept, Tells}
use Rattle.store_parts.proofs.StoreInWorld.{reached_of}
use Rattle.ring_core.specs.Tables.{owner_kept}
use Rattle.ring_core.proofs.SlotOwners.{in_ring, owner_told}
use Rattle.store_parts.proofs.KeepersDeclared.{keeper_within}

-- the place of a key, by its number
pub place_is : (q : ℕ) (keys : List (List ℕ)) (n : ℕ) (key : List ℕ) (place : Place) → option_map (place_of q) (slice_get keys n) ≡ Some place → slice_get keys n ≡ Some key → place ≡ place_of q key
place_is q keys n key place e at = (let f : option_map (place_of q) (Some key) ≡ Some place = ap (option_map (place_of q)) (sym at) ∙ e in let g : place_of q key ≡ place = some_is (place_of q key) place f in sym g)
  where
    some_is : (x y : Place) → ◌≡◌ {A = Option Place} (Some x) (Some y) → x ≡ y
    some_is x y h = cc

-- a list of one
pub one_of : (vs : List Version) (x : Version) → length vs ≡ 1 → slice_get vs 0 ≡ Some x → vs ≡ x ∷ []
one_of [] x l e = absurd cc
one_of (y ∷ []) x l e = (let f : y ≡ x = cc in ap (λ (z : Version). z ∷ []) f)
one_of (y ∷ z ∷ zs) x l e = absurd (omega arith)

-- has a first
pub none_of_one : (vs : List Version) → length vs ≡ 1 → slice_get vs 0 ≡ None → ⊥
none_of_one [] l e = absurd (omega arith)
none_of_one (x ∷ xs) l e = absurd cc

-- the place of the key whose place was asked for
pub lies_there : (ring : RingValue) (table : KeyTable) (n : ℕ) (key : List ℕ) (place : Place) → table.q ≡ ring.q → option_map (place_of table.q) (slice_get table.keys n) ≡ Some place → slice_get table.keys n ≡ Some key → place ≡ place_of ring.q key
lies_there ring table n key place same e at = place_is table.q table.keys n key place e at ∙ ap (λ (q : ℕ). place_of q key) same

module _ (ring : RingValue) (plan : List Planned) (k : Kept) (w : World) (m : Tells ring plan k w) where
  -- a put that is kept is one of the world's
  pub put_told : (v : ℕ) (put : PutNow) → slice_get k.puts v ≡ Some put → (x : PutRecord) × (slice_get w.puts v ≡ Some x) × PutMeets k.keys v put x
  put_told v put at = elim (both_puts k.keys k.last k.puts w v m.puts) [
    | inl none ↦ absurd (let e = sym none.0 ∙ at in cc)
    | inr some ↦ (let e : some.0 ≡ put = (let f = sym some.2 ∙ at in cc) in (some.1, some.3, subst (λ (p : PutNow). PutMeets k.keys v p some.1) e some.4))
  ]

  pub put_key_within : (v : ℕ) (put : PutNow) → slice_get k.puts v ≡ Some put → put.key < length k.keys
  put_key_within v put at = (let t = put_told v put at in slice_get_within k.keys put.key t.0.key t.2.key)

  -- it has one version
  pub one_version : (v : ℕ) (put : PutNow) → slice_get k.puts v ≡ Some put → length put.version ≡ 1
  one_version v put at = (let t = put_told v put at in ap (λ (vs : List Version). length vs) t.2.version)

  -- a keeper of versions that cover a clock is declared
  within : (x : ℕ) (slot : Slot) (key : List ℕ) (clock : List Entry) → Covers (k.hinted x slot key) clock → x < length ring.nodes
  within x slot key clock c =
      let d = (m.hinted x slot key).drawn c.0 c.1 in
      keeper_within ring plan k w m x slot c.0.put (and_parts (w.hinted x slot c.0.put) (is_of_key w key c.0.put) d.0).0

  pub held_told : (v : ℕ) (slot : Slot) (key : List ℕ) (clock : List Entry) (a b : Bool) → v < length w.puts → is_ring_slot ring slot ≡ true → key ≡ key_of_put w v → clock ≡ clock_at k.puts v
      → (IsTrue a ↔ Covers (k.stored (owner_kept k slot).0 slot key) clock) → (IsTrue b ↔ ((x : ℕ) × Covers (k.hinted x slot key) clock)) → (a || b) ≡ is_held ring plan w v slot
  held_told v slot key clock a b exists there same_key same_clock owner hints = by a b owner hints (is_held ring plan w v slot) refl
    where
      o : NodeId
      o = (stage_now ring plan w slot).owner

      owners : Shows (clock_at k.puts) (value_of w) (k.stored o.0 slot (key_of_put w v)) (λ u. w.stored o.0 slot u && is_of_key w (key_of_put w v) u)
      owners = m.stored o.0 slot (key_of_put w v)

      law : (is_held ring plan w v slot ≡ true) ↔ (Covers (k.stored o.0 slot (key_of_put w v)) (clock_at k.puts v) ⊎ ((x : ℕ) × (x < length ring.nodes) × Covers (k.hinted x slot (key_of_put w v)) (clock_at k.puts v)))
      law = held ring plan w (clock_at k.puts) (value_of w) v slot (k.stored o.0 slot (key_of_put w v)) (λ x. k.hinted x slot (key_of_put w v)) (reached_of ring plan k w m) m.puts.clocks exists owners (λ x l. m.hinted x slot (key_of_put w v))

      is_owner : owner_kept k slot ≡ o
      is_owner = owner_told ring plan k w m slot there

      at_owner : Covers (k.stored (owner_kept k slot).0 slot key) clock ↔ Covers (k.stored o.0 slot (key_of_put w v)) (clock_at k.puts v)
      at_owner = rw (is_owner, same_key, same_clock) (λ h. h, λ h. h)

      at_keeper : (x : ℕ) → Covers (k.hinted x slot key) clock ↔ Covers (k.hinted x slot (key_of_put w v)) (clock_at k.puts v)
      at_keeper x = rw (same_key, same_clock) (λ h. h, λ h. h)

      by : (a b : Bool) → (IsTrue a ↔ Covers (k.stored (owner_kept k slot).0 slot key) clock) → (IsTrue b ↔ ((x : ℕ) × Covers (k.hinted x slot key) clock)) → (t : Bool) → is_held ring plan w v slot ≡ t → (a || b) ≡ t
      by true b f g true e = refl
      by true b f g false e = absurd (let t = law.1 (inl (at_owner.0 (f.0 refl))) in cc)
      by false true f g true e = refl
      by false true f g false e = absurd (let p = g.0 refl in let t = law.1 (inr (p.0, within p.0 slot key clock p.1, (at_keeper p.0).0 p.1)) in cc)
      by false false f g false e = refl
      by false false f g true e = elim (law.0 e) [
        | inl c ↦ (let h = f.1 (at_owner.1 c) in absurd cc)
        | inr p ↦ (let h = g.1 (p.0, (at_keeper p.0).1 p.2) in absurd cc)
      ]

  -- the same of a put that is kept, its version's clock, and the place of its key
  pub held_kept : (v i : ℕ) (put : PutNow) (version : Version) (key : List ℕ) (place : Place) (a b : Bool) → i < ring.n → slice_get k.puts v ≡ Some put → put.version ≡ version ∷ []
      → slice_get k.keys put.key ≡ Some key → place ≡ place_of ring.q key → place.partition < ring.q
      → (IsTrue a ↔ Covers (k.stored (owner_kept k (record { partition = place.partition; index = i })).0 (record { partition = place.partition; index = i }) key) version.clock)
      → (IsTrue b ↔ ((x : ℕ) × Covers (k.hinted x (record { partition = place.partition; index = i }) key) version.clock))
      → (a || b) ≡ is_held ring plan w v (put_slot ring w v i)
  held_kept v i put version key place a b less at one keyed lies inside owner hints =
      let t = put_told v put at in
      let same_key : key ≡ t.0.key = (let e = sym keyed ∙ t.2.key in cc) in
      let of : key ≡ key_of_put w v = same_key ∙ sym (ap (λ (o : Option PutRecord). elim o as (λ _. List ℕ) [ Some x ↦ x.key | None ↦ [] ]) t.1) in
      let is : record { partition = place.partition; index = i } ≡ put_slot ring w v i = ap (λ (p : ℕ). slot_at p i) (ap (λ (z : Place). z.partition) lies ∙ ap (λ (bs : List ℕ). (place_of ring.q bs).partition) of) in
      let clock : version.clock ≡ clock_at k.puts v = sym (ap (λ (o : Option PutNow). elim o as (λ _. List Entry) [ Some p ↦ clock_in p.version | None ↦ [] ]) at ∙ ap clock_in one) in
      let there : is_ring_slot ring (record { partition = place.partition; index = i }) ≡ true = in_ring ring place.partition i inside less in
      held_told v (record { partition = place.partition; index = i }) key version.clock a b (slice_get_within w.puts v t.0 t.1) there of clock owner hints
      ∙ ap (λ (s : Slot). is_held ring plan w v s) is
