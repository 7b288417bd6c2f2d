-- What a slot has of a get's key.
use Rattle.std.proofs.Common.{◌≡◌, inl, inr, ◌∙◌, ℕ, ◌<◌, true, List, [], length, refl, sym, ap, subst, arith, ltb-true}
use Rattle.std.specs.Prelude.{◌&&◌, nat_lt, Option, Some, None, slice_get, option_map}
use Rattle.std.proofs.lemmas.Bool.{and_parts, or_right, and_from, or_cases, or_left}
use Rattle.std.proofs.lemmas.Option.{slice_get_within}
use Rattle.ring_names.specs.declared.ids.NodeId.{NodeId}
use Rattle.ring_names.specs.declared.ids.Slot.{Slot}
use Rattle.ring_names.proofs.InLists.{get_there}
use Rattle.ring_space.specs.Place.{place_of}
use Rattle.ring_space.specs.declared.found.Place.{Place}
use Rattle.ring_table.specs.Value.{RingValue}
use Rattle.ring_versions.specs.declared.version.Version.{Version}
use Rattle.ring_versions.specs.Versions.{IsIn, Covers, IsMerge}
use Rattle.plan_text.specs.declared.step.Planned.{Planned}
use Rattle.plan_text.specs.Valid.{is_ring_slot}
use Rattle.plan_stage.specs.Clauses.{first_failing}
use Rattle.plan_runs.specs.declared.event.Event.TheVariants.{Read}
use Rattle.plan_runs.specs.World.{GetRecord, World, stage_now, slot_at, key_of_get, is_of_key}
use Rattle.plan_runs.specs.Versions.{get_slot, some_hinted, slot_has}
use Rattle.plan_runs.specs.Guards.{guards}
use Rattle.plan_runs.proofs.Passed.{all_met}
use Rattle.plan_runs.proofs.Passing.{some_found, some_is}
use Rattle.store_parts.specs.Shows.{Shows, value_of}
use Rattle.store_parts.specs.GetsFind.{can_find}
use Rattle.store_parts.proofs.ShownSets.{with_none}
use Rattle.store_maps.specs.Ids.{id}
use Rattle.store_maps.specs.declared.key_id.KeyId.{KeyId}
use Rattle.store_parts.specs.KeyTable.{KeyTable, chunk_of}
use Rattle.store_parts.specs.Numbers.{by_bytes, by_keys}
use Rattle.store_parts.specs.PutsMeet.{AreNumbered}
use Rattle.store_parts.proofs.Numbers.{held_named, others_named}
use Rattle.store_parts.specs.declared.gets.GetNow.{GetNow}
use Rattle.store_parts.specs.declared.slots.SlotNow.{SlotNow}
use Rattle.store_parts.specs.Slots.{slot_now}
use Rattle.store_parts.specs.PutsMeet.{clock_at}
use Rattle.store_parts.proofs.GetsChanges.{kept_get}
use Rattle.store_parts.specs.Kept.{Kept, Tells}
use Rattle.store_parts.proofs.StoreInWorld.{slot_there}
use Rattle.store_clients.specs.Keepers.{MergesOthers}
use Rattle.store_clients.specs.Looks.{owned_at}
use Rattle.store_parts.proofs.KeepersDeclared.{keeper_within}
use Rattle.store_clients.proofs.NumberTests.{is_less}

module _ (ring : RingValue) (plan : List Planned) (k : Kept) (w : World) (m : Tells ring plan k w) where
  -- the key of a get that is get_there has a number
  pub get_key_there : (g : ℕ) (get : GetNow) → slice_get k.gets g ≡ Some get → get.key < length k.keys
  get_key_there g get is = (let x = kept_get ring (clock_at k.puts) k.keys k.gets w g get m.gets is in slice_get_within k.keys get.key x.0.key x.2.key)

  -- it is the get's key, and lies where the number's place says
  pub get_key_is : (g : ℕ) (get : GetNow) (place : Place) → slice_get k.gets g ≡ Some get → option_map (place_of ring.q) (slice_get k.keys get.key) ≡ Some place
      → (slice_get k.keys get.key ≡ Some (key_of_get w g)) × (place_of ring.q (key_of_get w g) ≡ place) × (place.partition < ring.q)
  get_key_is g get place is lies =
      let x = kept_get ring (clock_at k.puts) k.keys k.gets w g get m.gets is in
      let key : key_of_get w g ≡ x.0.key = ap (λ (o : Option GetRecord). elim o as (λ _. List ℕ) [ Some z ↦ z.key | None ↦ [] ]) x.1 in
      let at : slice_get k.keys get.key ≡ Some (key_of_get w g) = x.2.key ∙ ap (λ (z : List ℕ). Some z) (sym key) in
      let same : place_of ring.q (key_of_get w g) ≡ place = (let f = ap (option_map (place_of ring.q)) at in cc) in
      (at, same, subst (λ (z : Place). z.partition < ring.q) same (m.placed get.key (key_of_get w g) at))

  -- a get that may read a slot is get_there, and so is the slot
  pub reads_there : (g i : ℕ) → first_failing (guards ring plan w (Read g i)) ≡ None → (slice_get k.gets g ≡ None → ⊥) × (i < ring.n)
  unfolding guards
  reads_there g i p =
      let met = all_met (guards ring plan w (Read g i)) p in
      let both = and_parts (nat_lt g (length w.gets)) (nat_lt i ring.n) met.0 in
      let l = ltb-true g (length w.gets) both.0 in
      let e = m.gets.each in
      let x = get_there k.gets g (omega arith) in
      (λ none. (let f = x.1 in cc), ltb-true i ring.n both.1)

  -- what the slot's owner stores, by the owner in the world
  owned_is : (slot : Slot) (key : List ℕ) → is_ring_slot ring slot ≡ true → owned_at k.rows k.stored slot key ≡ k.stored (stage_now ring plan w slot).owner.0 slot key
  owned_is slot key is =
      let s = slot_there ring plan k w m slot is in
      ap (λ (o : Option SlotNow). elim o as (λ _. List Version) [ Some x ↦ k.stored x.owner.0 slot key | None ↦ [] ]) s.1
      ∙ ap (λ (x : NodeId). k.stored x.0 slot key) s.2.owner

  -- the versions that its owner and all keepers have show what it has of the key
  slot_shown : (slot : Slot) (key : List ℕ) (all : List Version) → is_ring_slot ring slot ≡ true → MergesOthers (owned_at k.rows k.stored slot key) (λ x. true) (λ x. k.hinted x slot key) all
      → Shows (clock_at k.puts) (value_of w) all (λ v. is_of_key w key v && slot_has ring plan w slot v)
  slot_shown slot key all is g =
      let o = (stage_now ring plan w slot).owner.0 in
      let mine = owned_is slot key is in
      record {
        drawn = λ x i. elim (g.drawn x i) [
          | inl old ↦ (
              let d = (m.stored o slot key).drawn x (subst (λ (xs : List Version). IsIn x xs) mine old) in
              let b = and_parts (w.stored o slot x.put) (is_of_key w key x.put) d.0 in
              (and_from (is_of_key w key x.put) (slot_has ring plan w slot x.put) b.1 (or_left (w.stored o slot x.put) (some_hinted ring w slot x.put) b.0), d.1, d.2))
          | inr h ↦ (
              let d = (m.hinted h.0 slot key).drawn x h.1 in
              let b = and_parts (w.hinted h.0 slot x.put) (is_of_key w key x.put) d.0 in
              let some : some_hinted ring w slot x.put ≡ true = some_is (length ring.nodes) (λ y. w.hinted y slot x.put) h.0 (keeper_within ring plan k w m h.0 slot x.put b.0) b.0 in
              (and_from (is_of_key w key x.put) (slot_has ring plan w slot x.put) b.1 (or_right (w.stored o slot x.put) (some_hinted ring w slot x.put) some), d.1, d.2))
        ];
        covers = λ v t. (
            let b = and_parts (is_of_key w key v) (slot_has ring plan w slot v) t in
            elim (or_cases (w.stored o slot v) (some_hinted ring w slot v) b.1) [
              | inl e ↦ g.mine (clock_at k.puts v) (subst (λ (xs : List Version). Covers xs (clock_at k.puts v)) (sym mine) ((m.stored o slot key).covers v (and_from (w.stored o slot v) (is_of_key w key v) e b.0)))
              | inr e ↦ (
                  let f = some_found (length ring.nodes) (λ y. w.hinted y slot v) e in
                  g.theirs f.0 (clock_at k.puts v) refl ((m.hinted f.0 slot key).covers v (and_from (w.hinted f.0 slot v) (is_of_key w key v) f.2 b.0)))
            ]);
        apart = g.apart;
      }

  -- so they show what a read of it can find
  pub finds_shown : (g i : ℕ) (get : GetNow) (place : Place) (key : List ℕ) (all : List Version) → slice_get k.gets g ≡ Some get → option_map (place_of ring.q) (slice_get k.keys get.key) ≡ Some place
      → slice_get k.keys get.key ≡ Some key → i < ring.n
      → MergesOthers (owned_at k.rows k.stored (slot_at place.partition i) key) (λ x. true) (λ x. k.hinted x (slot_at place.partition i) key) all
      → Shows (clock_at k.puts) (value_of w) all (can_find ring plan w g i)
  finds_shown g i get place key all is lies at l merged =
      let f = get_key_is g get place is lies in
      let own : key ≡ key_of_get w g = (let e = f.0 in cc) in
      let within : is_ring_slot ring (slot_at place.partition i) ≡ true = and_from (nat_lt place.partition ring.q) (nat_lt i ring.n) (is_less place.partition ring.q f.2) (is_less i ring.n l) in
      let shown = slot_shown (slot_at place.partition i) key all within merged in
      let by_slot = subst (λ (z : Place). Shows (clock_at k.puts) (value_of w) all (λ v. is_of_key w key v && slot_has ring plan w (slot_at z.partition i) v)) (sym f.1) shown in
      subst (λ (z : List ℕ). Shows (clock_at k.puts) (value_of w) all (λ v. is_of_key w z v && slot_has ring plan w (get_slot ring w g i) v)) own by_slot

-- ---- the owner that was looked up

owner_by : {K : Type 0} (o : Option SlotNow) (stored : ℕ → Slot → K → List Version) (slot : Slot) (key : K) (owner : NodeId) → Some owner ≡ option_map (λ (x : SlotNow). x.owner) o
    → (elim o as (λ _. List Version) [ Some x ↦ stored x.owner.0 slot key | None ↦ [] ]) ≡ stored owner.0 slot key
owner_by None stored slot key owner e = absurd cc
owner_by (Some x) stored slot key owner e = (let f : x.owner ≡ owner = cc in ap (λ (y : NodeId). stored y.0 slot key) f)

none_by : {K : Type 0} (o : Option SlotNow) (stored : ℕ → Slot → K → List Version) (slot : Slot) (key : K) → ◌≡◌ {A = Option NodeId} None (option_map (λ (x : SlotNow). x.owner) o)
    → (elim o as (λ _. List Version) [ Some x ↦ stored x.owner.0 slot key | None ↦ [] ]) ≡ []
none_by None stored slot key e = refl
none_by (Some x) stored slot key e = absurd cc

-- no versions merged with those of the owner
pub owner_merged : {K : Type 0} (rows : List (List SlotNow)) (stored : ℕ → Slot → K → List Version) (slot : Slot) (key : K) (owner : NodeId) (none held all : List Version) → Some owner ≡ option_map (λ (x : SlotNow). x.owner) (slot_now rows slot)
    → none ≡ [] → held ≡ stored owner.0 slot key → IsMerge none held all → IsMerge [] (owned_at rows stored slot key) all
owner_merged rows stored slot key owner none held all is start same merged =
    let own : owned_at rows stored slot key ≡ held = owner_by (slot_now rows slot) stored slot key owner is ∙ sym same in
    subst (λ (xs : List Version). IsMerge xs (owned_at rows stored slot key) all) start (subst (λ (xs : List Version). IsMerge none xs all) (sym own) merged)

-- the owner has none
pub owner_has_none : {K : Type 0} (rows : List (List SlotNow)) (stored : ℕ → Slot → K → List Version) (slot : Slot) (key : K) (owner : NodeId) (all : List Version) → Some owner ≡ option_map (λ (x : SlotNow). x.owner) (slot_now rows slot)
    → all ≡ [] → stored owner.0 slot key ≡ [] → IsMerge [] (owned_at rows stored slot key) all
owner_has_none rows stored slot key owner all is start none = owner_merged rows stored slot key owner [] [] all is refl (sym none) (subst (λ (xs : List Version). IsMerge [] [] xs) (sym start) (with_none [] tt))

-- there is no such slot
pub no_owner : {K : Type 0} (rows : List (List SlotNow)) (stored : ℕ → Slot → K → List Version) (slot : Slot) (key : K) (all : List Version) → ◌≡◌ {A = Option NodeId} None (option_map (λ (x : SlotNow). x.owner) (slot_now rows slot))
    → all ≡ [] → IsMerge [] (owned_at rows stored slot key) all
no_owner rows stored slot key all is start =
    subst (λ (xs : List Version). IsMerge [] (owned_at rows stored slot key) xs) (sym start)
    (subst (λ (xs : List Version). IsMerge [] xs []) (sym (none_by (slot_now rows slot) stored slot key is)) (with_none [] tt))

-- ---- by number

module _ (t : KeyTable) (numbered : AreNumbered t.keys) (n : ℕ) (k : KeyId) (key : List ℕ) (at : slice_get t.keys n ≡ Some key) (is : id (chunk_of t.q key) n ≡ k) where
  pub owned_named : (rows : List (List SlotNow)) (stored : ℕ → Slot → KeyId → List Version) (slot : Slot) → owned_at rows (by_keys t stored) slot key ≡ owned_at rows stored slot k
  owned_named rows stored slot = by (slot_now rows slot)
    where
      by : (o : Option SlotNow) → (elim o as (λ _. List Version) [ Some x ↦ by_bytes t (stored x.owner.0 slot) key | None ↦ [] ]) ≡ (elim o as (λ _. List Version) [ Some x ↦ stored x.owner.0 slot k | None ↦ [] ])
      by None = refl
      by (Some x) = held_named t (stored x.owner.0 slot) n k key numbered at is

  -- what is so of the key is so of its id
  pub at_number : (P : List Version → (ℕ → List Version) → Type 0) (rows : List (List SlotNow)) (stored hinted : ℕ → Slot → KeyId → List Version) (slot : Slot)
      → P (owned_at rows (by_keys t stored) slot key) (λ x. by_keys t hinted x slot key) → P (owned_at rows stored slot k) (λ x. hinted x slot k)
  at_number P rows stored hinted slot p =
      subst (λ (f : ℕ → List Version). P (owned_at rows stored slot k) f) (others_named t hinted slot n k key numbered at is)
      (subst (λ (vs : List Version). P vs (λ x. by_keys t hinted x slot key)) (owned_named rows stored slot) p)

  -- and the other way round
  pub at_key : (P : List Version → (ℕ → List Version) → Type 0) (rows : List (List SlotNow)) (stored hinted : ℕ → Slot → KeyId → List Version) (slot : Slot)
      → P (owned_at rows stored slot k) (λ x. hinted x slot k) → P (owned_at rows (by_keys t stored) slot key) (λ x. by_keys t hinted x slot key)
  at_key P rows stored hinted slot p =
      subst (λ (f : ℕ → List Version). P (owned_at rows (by_keys t stored) slot key) f) (sym (others_named t hinted slot n k key numbered at is))
      (subst (λ (vs : List Version). P vs (λ x. hinted x slot k)) (sym (owned_named rows stored slot)) p)
