-- The owners of all slots, by the slots that are kept, now and once every step is done.
use Rattle.std.proofs.Common.{◌≡◌, ◌∙◌, ℕ, zero, suc, ◌<◌, Bool, true, List, [], ◌∷◌, length, length-append, get_or, refl, ap, arith, lt-ltb}
use Rattle.std.specs.Prelude.{nat_lt, Option, Some, None}
use Rattle.std.proofs.lemmas.Option.{slice_get_within}
use Rattle.std.proofs.lemmas.Bool.{and_from}
use Rattle.ring_names.specs.declared.ids.NodeId.{NodeId}
use Rattle.ring_names.specs.declared.ids.Slot.{Slot}
use Rattle.ring_table.specs.Value.{RingValue}
use Rattle.plan_text.specs.declared.step.Planned.{Planned}
use Rattle.plan_text.specs.Steps.{steps_of}
use Rattle.plan_text.specs.Valid.{is_ring_slot}
use Rattle.plan_stage.specs.Stage.{stage}
use Rattle.plan_stage.proofs.Places.{placed}
use Rattle.plan_runs.specs.World.{World, count, stage_now, slot_at}
use Rattle.store_parts.specs.declared.slots.SlotNow.{SlotNow}
use Rattle.store_parts.specs.Kept.{Kept, Tells}
use Rattle.store_parts.proofs.StoreInWorld.{slot_there}
use Rattle.ring_core.specs.Tables.{values_below, table_of, owner_kept, owners_now, owners_last, AllDone}

-- values that are the same at each number below n
pub same_values : {A : Type 0} → (n : ℕ) (f g : ℕ → A) → ((i : ℕ) → i < n → f i ≡ g i) → values_below n f ≡ values_below n g
same_values zero f g e = refl
same_values (suc n) f g e = rw (same_values n f g (λ i l. e i (omega arith)), e n (omega arith)) refl

-- as many values as numbers
pub length_values : {A : Type 0} → (n : ℕ) (f : ℕ → A) → length (values_below n f) ≡ n
length_values zero f = refl
length_values (suc n) f = (let tail = length-append (values_below n f) (f n ∷ []) in let front = length_values n f in omega arith)

-- a slot by its numbers
pub in_ring : (ring : RingValue) (p i : ℕ) → p < ring.q → i < ring.n → is_ring_slot ring (slot_at p i) ≡ true
in_ring ring p i a b = and_from (nat_lt p ring.q) (nat_lt i ring.n) (lt-ltb p ring.q a) (lt-ltb i ring.n b)

-- tables of owners that are the same at each slot of the ring
same_tables : (ring : RingValue) (f g : Slot → NodeId) → ((slot : Slot) → is_ring_slot ring slot ≡ true → f slot ≡ g slot) → table_of ring f ≡ table_of ring g
same_tables ring f g e = same_values ring.q _ _ (λ p a. same_values ring.n _ _ (λ i b. e (slot_at p i) (in_ring ring p i a b)))

module _ (ring : RingValue) (plan : List Planned) (k : Kept) (w : World) (m : Tells ring plan k w) where
  -- the kept owner of a slot is its owner now
  pub owner_told : (slot : Slot) → is_ring_slot ring slot ≡ true → owner_kept k slot ≡ (stage_now ring plan w slot).owner
  owner_told slot e =
      let there = slot_there ring plan k w m slot e in
      ap (λ (o : Option SlotNow). elim o [ Some x ↦ x.owner | None ↦ record { 0 = 0 } ]) there.1 ∙ there.2.owner

  pub table_told : table_of ring (owner_kept k) ≡ owners_now ring plan w
  table_told = same_tables ring (owner_kept k) (λ slot. (stage_now ring plan w slot).owner) owner_told

-- all of these pass
count_all : (D : ℕ → Bool) (ss : List ℕ) → ((j : ℕ) → j < length ss → D (get_or ss j 0) ≡ true) → count D ss ≡ length ss
count_all D [] e = refl
count_all D (s ∷ ss) e = rw (e zero (omega arith), count_all D ss (λ j l. e (suc j) (omega arith))) (omega arith)

-- once every step is done each slot is at its last stage
pub table_last : (ring : RingValue) (plan : List Planned) (w : World) → AllDone plan w → owners_now ring plan w ≡ owners_last ring plan
table_last ring plan w all = same_tables ring _ _ (λ slot e. ap (λ (n : ℕ). (stage ring plan slot n).owner) (count_all w.done (steps_of plan slot) (λ j l. (
    let at = placed plan slot j l in
    all (get_or (steps_of plan slot) j 0) (slice_get_within plan (get_or (steps_of plan slot) j 0) at.0 at.1)))))
