-- What is kept of a put and of the slot that it goes to.
use Rattle.std.proofs.Common.{◌≡◌, inl, inr, ◌∙◌, ℕ, ◌<◌, ◌≤◌, Bool, true, false, List, [], length, refl, sym, ap, subst, arith, ltb-true, lt-ltb}
use Rattle.std.specs.Prelude.{◌≢◌, nat_lt, Option, Some, None, slice_get, option_map, is_some, IfSome}
use Rattle.std.proofs.lemmas.Bool.{and_parts, and_from}
use Rattle.std.proofs.lemmas.Option.{slice_get_cases}
use Rattle.std.proofs.Props.{props}
use Rattle.ring_names.specs.declared.ids.NodeId.{NodeId}
use Rattle.ring_names.specs.declared.ids.Slot.{Slot}
use Rattle.ring_space.specs.Place.{place_of}
use Rattle.ring_space.specs.declared.found.Place.{Place}
use Rattle.ring_table.specs.Value.{RingValue}
use Rattle.plan_text.specs.declared.step.Planned.{Planned}
use Rattle.plan_text.specs.Valid.{is_ring_slot}
use Rattle.plan_runs.specs.World.{PutRecord, World, key_of_put, slot_at}
use Rattle.plan_runs.specs.Guards.{put_exists}
use Rattle.plan_runs.specs.Versions.{put_slot}
use Rattle.store_parts.specs.declared.puts.PutNow.{PutNow}
use Rattle.store_parts.specs.declared.slots.SlotNow.{SlotNow}
use Rattle.store_parts.specs.Slots.{slot_now}
use Rattle.store_parts.proofs.PutsTests.{both_puts, same_has_put}
use Rattle.store_parts.specs.Kept.{Kept, Tells}
use Rattle.store_parts.proofs.StoreInWorld.{slot_there, mirror_apart}

-- an item that is there is within the list
pub within : {A : Type 0} (xs : List A) (n : ℕ) (x : A) → slice_get xs n ≡ Some x → n < length xs
within xs n x e = elim (slice_get_cases xs n).1 [
  | inl s ↦ s.1
  | inr s ↦ absurd (let none = s.1 in cc)
]

-- that the mirror fits can hold in only one way
pub mirror_prop : (o : Option NodeId) (owner : ℕ) → IsProp (IfSome o (λ y. y.0 ≢ owner))
mirror_prop None owner = hlevel props
mirror_prop (Some y) owner = hlevel props

-- the first of a look-up's two halves
pub looked_up : {A B : Type 0} (f : A → B) (o : Option A) (x : A) (y : B) → o ≡ Some x → option_map f o ≡ Some y → f x ≡ y
looked_up f (Some z) x y e h = (let same : z ≡ x = cc in let is : f z ≡ y = cc in ap f (sym same) ∙ is)
looked_up f None x y e h = absurd cc

module _ (ring : RingValue) (plan : List Planned) (k : Kept) (w : World) (m : Tells ring plan k w) where
  -- ---- a put that is kept

  module _ (v : ℕ) (put : PutNow) (at : slice_get k.puts v ≡ Some put) where
    -- it has one version
    pub version_some : put.version ≢ []
    version_some none = elim (both_puts k.keys k.last k.puts w v m.puts) [
      | inl n ↦ (let gone = n.0 in cc)
      | inr s ↦ (
          let same : s.0 ≡ put = (let here = s.2 in cc) in
          let one : s.0.version ≡ [] = ap (λ (p : PutNow). p.version) same ∙ none in
          let some = s.4.version in
          cc)
    ]

    -- its key has that number
    pub key_of : slice_get k.keys put.key ≡ Some (key_of_put w v)
    key_of = elim (both_puts k.keys k.last k.puts w v m.puts) [
      | inl n ↦ absurd (let none = n.0 in cc)
      | inr s ↦ (
          let same : s.0 ≡ put = (let here = s.2 in cc) in
          let key : key_of_put w v ≡ s.1.key = ap (λ (o : Option PutRecord). elim o [ Some x ↦ x.key | None ↦ [] ]) s.3 in
          subst (λ (p : PutNow). slice_get k.keys p.key ≡ Some (key_of_put w v)) same (s.4.key ∙ ap Some (sym key)))
    ]

    pub key_within : put.key < length k.keys
    key_within = within k.keys put.key (key_of_put w v) key_of

    -- where its key lies, among the partitions of the ring
    module _ (q : ℕ) (space : q ≡ ring.q) (place : Place) (lies : option_map (place_of q) (slice_get k.keys put.key) ≡ Some place) where
      pub place_is : place_of ring.q (key_of_put w v) ≡ place
      place_is = ap (λ (p : ℕ). place_of p (key_of_put w v)) (sym space) ∙ looked_up (place_of q) (slice_get k.keys put.key) (key_of_put w v) place key_of lies

      pub slot_is : (i : ℕ) → slot_at place.partition i ≡ put_slot ring w v i
      slot_is i = ap (λ (p : Place). slot_at p.partition i) (sym place_is)

      pub partition_within : place.partition < ring.q
      partition_within = subst (λ (p : Place). p.partition < ring.q) place_is (m.placed put.key (key_of_put w v) key_of)

    -- it exists with every slot index of the ring
    pub exists : (i : ℕ) → i < ring.n → put_exists ring w v i ≡ true
    exists i l = sym (same_has_put ring k.keys k.last k.puts w v i m.puts)
        ∙ and_from (nat_lt v (length k.puts)) (nat_lt i ring.n) (lt-ltb v (length k.puts) (within k.puts v put at)) (lt-ltb i ring.n l)

  -- ---- a put that is not

  pub exists_not : (v i : ℕ) → slice_get k.puts v ≡ None → put_exists ring w v i ≡ false
  exists_not v i none = by (put_exists ring w v i) refl
    where
      by : (b : Bool) → put_exists ring w v i ≡ b → put_exists ring w v i ≡ false
      by false e = e
      by true e = absurd (
          let p = and_parts (nat_lt v (length k.puts)) (nat_lt i ring.n) (same_has_put ring k.keys k.last k.puts w v i m.puts ∙ e) in
          let l = ltb-true v (length k.puts) p.0 in
          elim (slice_get_cases k.puts v).1 [ inl s ↦ (let some = s.2 in cc) | inr s ↦ (let le = s.0 in omega arith) ])

  -- ---- where the put exists with that index

  module _ (v i : ℕ) (there : put_exists ring w v i ≡ true) where
    index_within : i < ring.n
    index_within = (let p = and_parts (nat_lt v (length w.puts)) (nat_lt i ring.n) there in ltb-true i ring.n p.1)

    pub index_few : i < 7
    index_few = (let l = index_within in let few = m.is_ring.slots in omega arith)

    pub put_kept : slice_get k.puts v ≢ None
    put_kept none = (let f = exists_not v i none in cc)

    pub put_slot_in_ring : (p : ℕ) → p < ring.q → is_ring_slot ring (slot_at p i) ≡ true
    put_slot_in_ring p l = and_from (nat_lt p ring.q) (nat_lt i ring.n) (lt-ltb p ring.q l) (lt-ltb i ring.n index_within)

  -- ---- a slot of the ring

  pub slot_kept : (s : Slot) → is_ring_slot ring s ≡ true → slot_now k.rows s ≢ None
  slot_kept s e none = (let t = slot_there ring plan k w m s e in let some = t.1 in cc)

  -- a slot is kept if it is the ring's
  pub kept_in_ring : (s : Slot) → is_some (slot_now k.rows s) ≡ is_ring_slot ring s
  kept_in_ring s = by (is_ring_slot ring s) refl
    where
      by : (b : Bool) → is_ring_slot ring s ≡ b → is_some (slot_now k.rows s) ≡ is_ring_slot ring s
      by true e = ap is_some (slot_there ring plan k w m s e).1 ∙ sym e
      by false e = ap is_some (m.slots.others s e) ∙ sym e

  -- its mirror is another node than its owner
  pub mirror_fits : (s : Slot) (x : SlotNow) → slot_now k.rows s ≡ Some x → IfSome x.mirror (λ y. y.0 ≢ x.owner.0)
  mirror_fits s x at = by x.mirror refl
    where
      by : (o : Option NodeId) → x.mirror ≡ o → IfSome o (λ y. y.0 ≢ x.owner.0)
      by None e = tt
      by (Some y) e = mirror_apart ring plan k w m s x y at e
