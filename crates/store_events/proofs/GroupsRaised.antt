-- Slots whose generation is raised, one after the other.
use Rattle.std.proofs.Common.{◌≡◌, inl, inr, ◌∙◌, ℕ, ◌+◌, Bool, true, false, List, [], refl, sym, subst, arith, eqb-true, eq-eqb, ltb-true, lt-ltb, le-ltb}
use Rattle.std.specs.Prelude.{◌↔◌, ◌==◌, ◌&&◌, ◌||◌, nat_lt, Option, Some, None, option_map, if◌then◌else◌}
use Rattle.std.proofs.lemmas.Bool.{and_parts, or_right, and_from, cases_lt, or_cases, or_left}
use Rattle.ring_names.specs.declared.ids.Slot.{Slot}
use Rattle.ring_names.proofs.Logic.{bool_same}
use Rattle.ring_versions.specs.declared.version.Version.{Version}
use Rattle.plan_text.specs.Steps.{is_slot}
use Rattle.plan_stage.proofs.Truth.{slot-is, slot-same}
use Rattle.store_parts.specs.declared.slots.SlotNow.{SlotNow}
use Rattle.store_parts.specs.Slots.{slot_now, ChangesSlot}
use Rattle.store_parts.specs.GuardsKept.{is_served_kept}
use Rattle.store_maps.specs.declared.key_id.KeyId.{KeyId}
use Rattle.store_parts.specs.KeyTable.{KeyTable}
use Rattle.store_parts.specs.Numbers.{by_keys, ArePlaced}
use Rattle.store_parts.specs.PutsMeet.{AreNumbered}
use Rattle.store_parts.proofs.Numbers.{none}
use Rattle.store_events.specs.Groups.{raised, RaisesGroup, RaisesGroups}

-- what it says of a slot, over what holds of the slot before and after
abbrev pub RaisesNow : {K : Type 0} → (ℕ → Slot → K → List Version) → ℕ → Slot → Option SlotNow → Option SlotNow → Type 0
RaisesNow {K} hinted x t before after = (keeps : Bool) × ((keeps ≡ false) ↔ ((key : K) → hinted x t key ≡ []))
    × (after ≡ (if elim before [ Some a ↦ (x == a.owner.0) || elim a.mirror [ Some y ↦ x == y.0 | None ↦ false ] | None ↦ false ] || keeps then option_map raised before else before))

module _ {K : Type 0} (hinted : ℕ → Slot → K → List Version) (x : ℕ) where
  -- ---- one slot

  -- a test that only the slot passes
  only : (slot : Slot) (P : Slot → Type 0) → P slot → (t : Slot) → is_slot slot t ≡ true → P t
  only slot P p t e = subst P (slot-is slot t e) p

  pub group_raised : (slot : Slot) (keeps : Bool) (old new : List (List SlotNow)) → (keeps ≡ false) ↔ ((key : K) → hinted x slot key ≡ []) → (is_served_kept old slot x || keeps) ≡ true
      → ChangesSlot old new slot raised → RaisesGroups hinted x (λ t. is_slot slot t) old new
  group_raised slot keeps old new tells in_it changes = record {
    each = only slot (λ t. RaisesGroup hinted x t old new) (keeps, tells, (let f : is_slot slot slot ≡ true = slot-same slot in rw (in_it) (changes slot ∙ rw f refl)));
    others = λ t e. changes t ∙ rw e refl;
  }

  pub group_left : (slot : Slot) (keeps : Bool) (rows : List (List SlotNow)) → (keeps ≡ false) ↔ ((key : K) → hinted x slot key ≡ []) → (is_served_kept rows slot x || keeps) ≡ false
      → RaisesGroups hinted x (λ t. is_slot slot t) rows rows
  group_left slot keeps rows tells out = record {
    each = only slot (λ t. RaisesGroup hinted x t rows rows) (keeps, tells, rw out refl);
    others = λ t e. refl;
  }

  -- ---- one after the other

  pub none_raised : (test : Slot → Bool) (rows : List (List SlotNow)) → ((t : Slot) → test t ≡ true → ⊥) → RaisesGroups hinted x test rows rows
  none_raised test rows none = record { each = λ t e. absurd (none t e); others = λ t e. refl }

  pub more_raised : (f g both : Slot → Bool) (a b c : List (List SlotNow)) → RaisesGroups hinted x f a b → RaisesGroups hinted x g b c → ((t : Slot) → f t ≡ true → g t ≡ true → ⊥) → ((t : Slot) → both t ≡ (f t || g t))
      → RaisesGroups hinted x both a c
  more_raised f g both a b c first second apart is = record {
    each = λ t e. by_first t (f t) (g t) refl refl (sym (is t) ∙ e);
    others = λ t e. by_none t (f t) (g t) refl refl (sym (is t) ∙ e);
  }
    where
      by_first : (t : Slot) (d e : Bool) → f t ≡ d → g t ≡ e → (f t || g t) ≡ true → RaisesGroup hinted x t a c
      by_first t true true h k some = absurd (apart t h k)
      by_first t true false h k some = subst (λ (o : Option SlotNow). RaisesNow hinted x t (slot_now a t) o) (sym (second.others t k)) (first.each t h)
      by_first t false true h k some = subst (λ (o : Option SlotNow). RaisesNow hinted x t o (slot_now c t)) (first.others t h) (second.each t k)
      by_first t false false h k some = absurd (let z : false ≡ true = sym (rw (h, k) refl) ∙ some in cc)

      by_none : (t : Slot) (d e : Bool) → f t ≡ d → g t ≡ e → (f t || g t) ≡ false → slot_now c t ≡ slot_now a t
      by_none t true e h k none = absurd (let z : true ≡ false = sym (rw h refl) ∙ none in cc)
      by_none t false true h k none = absurd (let z : true ≡ false = sym (rw (h, k) refl) ∙ none in cc)
      by_none t false false h k none = second.others t k ∙ first.others t h

-- ---- the slots of a partition, and of a ring

-- those of smaller index than i
abbrev pub in_row : ℕ → ℕ → Slot → Bool
in_row p i t = (t.partition == p) && nat_lt t.index i

-- the slots of n for each partition of smaller number than p
abbrev pub in_rows : ℕ → ℕ → Slot → Bool
in_rows p n t = nat_lt t.partition p && nat_lt t.index n

pub row_none : (p : ℕ) (t : Slot) → in_row p 0 t ≡ true → ⊥
row_none p t e = (let l = ltb-true t.index 0 (and_parts (t.partition == p) (nat_lt t.index 0) e).1 in omega arith)

pub rows_none : (n : ℕ) (t : Slot) → in_rows 0 n t ≡ true → ⊥
rows_none n t e = (let l = ltb-true t.partition 0 (and_parts (nat_lt t.partition 0) (nat_lt t.index n) e).0 in omega arith)

-- the slot of index i is not among those before it
pub row_at : (p i : ℕ) → in_row p i (record { partition = p; index = i }) ≡ false
row_at p i = (let f = le-ltb i i (omega arith) in by (p == p) (nat_lt i i) f)
  where
    by : (a b : Bool) → b ≡ false → (a && b) ≡ false
    by true b e = e
    by false b e = refl

-- the slots of a partition are not among those of the partitions before it
pub rows_at : (p n : ℕ) (t : Slot) → t.partition ≡ p → in_rows p n t ≡ false
rows_at p n t e = (let f : nat_lt t.partition p ≡ false = le-ltb t.partition p (omega arith) in rw f refl)

-- the slot of index i is the next one
pub row_next : (p i : ℕ) (t : Slot) → in_row p i t ≡ true → is_slot (record { partition = p; index = i }) t ≡ true → ⊥
row_next p i t e f =
    let l = ltb-true t.index i (and_parts (t.partition == p) (nat_lt t.index i) e).1 in
    let s = eqb-true i t.index (and_parts (p == t.partition) (i == t.index) f).1 in
    omega arith

pub row_more : (p i : ℕ) (t : Slot) → in_row p (i + 1) t ≡ (in_row p i t || is_slot (record { partition = p; index = i }) t)
row_more p i t = bool_same (in_row p (i + 1) t) (in_row p i t || is_slot (record { partition = p; index = i }) t) to from
  where
    to : in_row p (i + 1) t ≡ true → (in_row p i t || is_slot (record { partition = p; index = i }) t) ≡ true
    to e =
        let b = and_parts (t.partition == p) (nat_lt t.index (i + 1)) e in
        let s = eqb-true t.partition p b.0 in
        let l = ltb-true t.index (i + 1) b.1 in
        elim (cases_lt t.index i) [
          | inl h ↦ or_left (in_row p i t) (is_slot (record { partition = p; index = i }) t) (and_from (t.partition == p) (nat_lt t.index i) b.0 (lt-ltb t.index i h))
          | inr h ↦ or_right (in_row p i t) (is_slot (record { partition = p; index = i }) t) (and_from (p == t.partition) (i == t.index) (eq-eqb p t.partition (sym s)) (eq-eqb i t.index (omega arith)))
        ]

    from : (in_row p i t || is_slot (record { partition = p; index = i }) t) ≡ true → in_row p (i + 1) t ≡ true
    from e = elim (or_cases (in_row p i t) (is_slot (record { partition = p; index = i }) t) e) [
      | inl h ↦ (
          let b = and_parts (t.partition == p) (nat_lt t.index i) h in
          let l = ltb-true t.index i b.1 in
          and_from (t.partition == p) (nat_lt t.index (i + 1)) b.0 (lt-ltb t.index (i + 1) (omega arith)))
      | inr h ↦ (
          let b = and_parts (p == t.partition) (i == t.index) h in
          let s = eqb-true p t.partition b.0 in
          let j = eqb-true i t.index b.1 in
          and_from (t.partition == p) (nat_lt t.index (i + 1)) (eq-eqb t.partition p (sym s)) (lt-ltb t.index (i + 1) (omega arith)))
    ]

-- the row of partition p is the next one
pub rows_next : (p n : ℕ) (t : Slot) → in_rows p n t ≡ true → in_row p n t ≡ true → ⊥
rows_next p n t e f =
    let l = ltb-true t.partition p (and_parts (nat_lt t.partition p) (nat_lt t.index n) e).0 in
    let s = eqb-true t.partition p (and_parts (t.partition == p) (nat_lt t.index n) f).0 in
    omega arith

pub rows_more : (p n : ℕ) (t : Slot) → in_rows (p + 1) n t ≡ (in_rows p n t || in_row p n t)
rows_more p n t = bool_same (in_rows (p + 1) n t) (in_rows p n t || in_row p n t) to from
  where
    to : in_rows (p + 1) n t ≡ true → (in_rows p n t || in_row p n t) ≡ true
    to e =
        let b = and_parts (nat_lt t.partition (p + 1)) (nat_lt t.index n) e in
        let l = ltb-true t.partition (p + 1) b.0 in
        elim (cases_lt t.partition p) [
          | inl h ↦ or_left (in_rows p n t) (in_row p n t) (and_from (nat_lt t.partition p) (nat_lt t.index n) (lt-ltb t.partition p h) b.1)
          | inr h ↦ or_right (in_rows p n t) (in_row p n t) (and_from (t.partition == p) (nat_lt t.index n) (eq-eqb t.partition p (omega arith)) b.1)
        ]

    from : (in_rows p n t || in_row p n t) ≡ true → in_rows (p + 1) n t ≡ true
    from e = elim (or_cases (in_rows p n t) (in_row p n t) e) [
      | inl h ↦ (
          let b = and_parts (nat_lt t.partition p) (nat_lt t.index n) h in
          let l = ltb-true t.partition p b.0 in
          and_from (nat_lt t.partition (p + 1)) (nat_lt t.index n) (lt-ltb t.partition (p + 1) (omega arith)) b.1)
      | inr h ↦ (
          let b = and_parts (t.partition == p) (nat_lt t.index n) h in
          let s = eqb-true t.partition p b.0 in
          and_from (nat_lt t.partition (p + 1)) (nat_lt t.index n) (lt-ltb t.partition (p + 1) (omega arith)) b.1)
    ]

-- ---- by number

-- what is raised by the ids that are kept is raised by the keys
pub groups_named : (t : KeyTable) (hinted : ℕ → Slot → KeyId → List Version) (x : ℕ) (test : Slot → Bool) (old new : List (List SlotNow)) → AreNumbered t.keys → ((y : ℕ) (s : Slot) → ArePlaced t (hinted y s)) → RaisesGroups hinted x test old new → RaisesGroups (by_keys t hinted) x test old new
groups_named t hinted x test old new numbered placed raises = record {
  each = λ s e. (
      let r = raises.each s e in
      let n = none t (hinted x s) numbered (placed x s) in
      (r.0, (λ f. n.0 (r.1.0 f), λ f. r.1.1 (n.1 f)), r.2));
  others = raises.others;
}
