-- Who owns the slots once all steps are done.
use Rattle.std.proofs.Common.{◌≡◌, ◌⊎◌, inl, inr, ◌∙◌, ℕ, zero, suc, ◌+◌, ◌<◌, ◌≤◌, Bool, true, false, cond, List, [], ◌∷◌, ◌++◌, length, length-append, refl, sym, ap, arith, lt-ltb}
use Rattle.std.specs.Prelude.{Option, Some, slice_get, option_and_then}
use Rattle.std.proofs.lemmas.Bool.{cases_lt}
use Rattle.ring_names.proofs.InLists.{get_last}
use Rattle.ring_names.specs.declared.ids.NodeId.{NodeId}
use Rattle.ring_names.specs.declared.ids.Slot.{Slot}
use Rattle.ring_table.specs.Value.{RingValue}
use Rattle.plan_text.specs.declared.step.Planned.{Planned}
use Rattle.plan_text.specs.Steps.{is_on, steps_from}
use Rattle.plan_stage.specs.Stage.{stage}
use Rattle.plan_stage.specs.Parties.{count_below, stage_before}
use Rattle.plan_cover.specs.declared.present.Serving.{Serving}
use Rattle.plan_moves.specs.Moves.{served_before}
use Rattle.plan_moves.specs.Owners.{last_owners, row_by, rows_by}
use Rattle.plan_runs.specs.World.{World, count, slot_at, stage_now}
use Rattle.plan_goal.specs.Sequence.{HasOwners, IsDone}

-- ---- all steps are done

-- as many of a slot's steps are done as have a smaller number than the plan has steps
as_many_done : (done : ℕ → Bool) (m : ℕ) → ((n : ℕ) → n < m → done n ≡ true) → (k : ℕ) (xs : List Planned) (slot : Slot) → k + length xs ≤ m
    → count done (steps_from k xs slot) ≡ count_below m (steps_from k xs slot)
as_many_done done m all k [] slot l = refl
as_many_done done m all k (x ∷ xs) slot l = by (is_on slot x.step) (as_many_done done m all (k + 1) xs slot (omega arith))
  where
    later : List ℕ
    later = steps_from (k + 1) xs slot

    by : (b : Bool) → count done later ≡ count_below m later → count done (cond b (k ∷ later) later) ≡ count_below m (cond b (k ∷ later) later)
    by false rest = rest
    by true rest = rw (all k (omega arith), lt-ltb k m (omega arith), rest) refl

-- so a slot's stage is the one after all its steps
last_stage : (ring : RingValue) (plan : List Planned) (w : World) → IsDone plan w → (slot : Slot) → stage_now ring plan w slot ≡ stage_before ring plan slot (length plan)
last_stage ring plan w all slot = ap (stage ring plan slot) (as_many_done w.done (length plan) all 0 plan slot (omega arith))

-- ---- rows

before_more : {A : Type 0} (xs ys : List A) (k : ℕ) → k < length xs → slice_get (xs ++ ys) k ≡ slice_get xs k
before_more [] ys k l = absurd (omega arith)
before_more (x ∷ xs) ys zero l = refl
before_more (x ∷ xs) ys (suc k) l = before_more xs ys k (omega arith)

row_length : (serve : Slot → Serving) (p n : ℕ) → length (row_by serve p n) ≡ n
unfolding row_by
row_length serve p zero = refl
row_length serve p (suc n) = (let e = length-append (row_by serve p n) ((serve (record { partition = p; index = n })).owner ∷ []) in let l = row_length serve p n in omega arith)

rows_length : (serve : Slot → Serving) (n q : ℕ) → length (rows_by serve n q) ≡ q
unfolding rows_by
rows_length serve n zero = refl
rows_length serve n (suc q) = (let e = length-append (rows_by serve n q) (row_by serve q n ∷ []) in let l = rows_length serve n q in omega arith)

-- the last, or one before it
last_or : (i n : ℕ) → i < suc n → (i < n) ⊎ (i ≡ n)
last_or i n l = elim (cases_lt i n) [ inl h ↦ inl h | inr h ↦ inr (omega arith) ]

row_at : (serve : Slot → Serving) (p n i : ℕ) → i < n → slice_get (row_by serve p n) i ≡ Some (serve (slot_at p i)).owner
unfolding row_by
row_at serve p zero i l = absurd (omega arith)
row_at serve p (suc n) i l = elim (last_or i n l) [
  | inl h ↦ before_more (row_by serve p n) ((serve (slot_at p n)).owner ∷ []) i (let e = row_length serve p n in omega arith) ∙ row_at serve p n i h
  | inr e ↦ (let s : i ≡ length (row_by serve p n) = e ∙ sym (row_length serve p n) in
      ap (slice_get (row_by serve p n ++ (serve (slot_at p n)).owner ∷ [])) s ∙ get_last (row_by serve p n) (serve (slot_at p n)).owner
      ∙ ap (λ (j : ℕ). Some (serve (slot_at p j)).owner) (sym e))
]

rows_at : (serve : Slot → Serving) (n q p : ℕ) → p < q → slice_get (rows_by serve n q) p ≡ Some (row_by serve p n)
unfolding rows_by
rows_at serve n zero p l = absurd (omega arith)
rows_at serve n (suc q) p l = elim (last_or p q l) [
  | inl h ↦ before_more (rows_by serve n q) (row_by serve q n ∷ []) p (let e = rows_length serve n q in omega arith) ∙ rows_at serve n q p h
  | inr e ↦ (let s : p ≡ length (rows_by serve n q) = e ∙ sym (rows_length serve n q) in
      ap (slice_get (rows_by serve n q ++ row_by serve q n ∷ [])) s ∙ get_last (rows_by serve n q) (row_by serve q n) ∙ ap (λ (j : ℕ). Some (row_by serve j n)) (sym e))
]

-- a ring with the owners after the last step has those of the moment
pub owners_at_end : (ring : RingValue) (plan : List Planned) (w : World) (next : RingValue) → IsDone plan w → next.owners ≡ last_owners ring plan → HasOwners ring plan w next
owners_at_end ring plan w next all same p i l m =
    let serve = served_before ring plan (length plan) in
    ap (λ (rows : List (List NodeId)). option_and_then (λ row. slice_get row i) (slice_get rows p)) same
    ∙ ap (λ (o : Option (List NodeId)). option_and_then (λ row. slice_get row i) o) (rows_at serve ring.n ring.q p l)
    ∙ row_at serve p ring.n i m
    ∙ ap (λ a. Some a.owner) (sym (last_stage ring plan w all (slot_at p i)))
