-- The slots that are kept go on to tell the slots of a world.
use Rattle.std.proofs.Common.{◌≡◌, inl, inr, ◌∙◌, ℕ, ◌+◌, Bool, true, false, cond, List, [], refl, sym, ap, subst, arith, lt-ltb}
use Rattle.std.specs.Prelude.{nat_lt, Option, Some, None, option_map, is_some, option_and_then, if◌then◌else◌}
use Rattle.std.proofs.lemmas.Bool.{not-true, and_from}
use Rattle.ring_names.specs.declared.ids.NodeId.{NodeId}
use Rattle.ring_names.specs.declared.ids.Slot.{Slot}
use Rattle.ring_table.specs.Value.{RingValue, owner_of}
use Rattle.ring_table.specs.Valid.{IsRing}
use Rattle.plan_text.specs.declared.step.Step.{Step}
use Rattle.plan_text.specs.declared.step.Step.TheVariants as step
use Rattle.plan_text.specs.declared.step.Planned.{Planned}
use Rattle.plan_text.specs.Steps.{steps_of, is_on, copy_of}
use Rattle.plan_text.specs.Valid.{IsPlan, is_ring_slot}
use Rattle.plan_stage.specs.Stage.{opening, stage}
use Rattle.plan_stage.specs.Each.{step_at}
use Rattle.plan_stage.specs.Clauses.{first_failing}
use Rattle.plan_runs.specs.declared.event.Event.{Event}
use Rattle.plan_runs.specs.declared.event.Event.TheVariants.{Do, CloseCopy, Lose}
use Rattle.plan_check.specs.Sound.{Sound}
use Rattle.plan_runs.specs.World.{World, opening_world, count, mirror_at, mirrors_done, is_in_group}
use Rattle.plan_runs.specs.Guards.{guards}
use Rattle.plan_runs.specs.Effects.{with_number, without_number, step_effect, effect}
use Rattle.plan_runs.specs.Reached.{Reached}
use Rattle.plan_runs.proofs.Copying.{closed_with}
use Rattle.plan_runs.proofs.Frames.{step_is, done_is}
use Rattle.plan_check.proofs.Mirrored.{known}
use Rattle.plan_check.proofs.Occupied.{occupied}
use Rattle.plan_runs.proofs.Passed.{all_met, ready}
use Rattle.plan_runs.proofs.Suited.{owner-within, within}
use Rattle.store_parts.specs.declared.slots.SlotNow.{SlotNow}
use Rattle.store_parts.specs.Slots.{slot_at_start, slot_now}
use Rattle.store_parts.specs.SlotsMeet.{IsNow, SlotsMeet}
use Rattle.store_parts.specs.SlotsStepped.{stepped, StepsSlots, step_leaves_slots, leaves_slots}
use Rattle.store_parts.proofs.SlotsDone.{same_slots, slots_stepped}
use Rattle.store_parts.proofs.StageCounts.{count_none}
use Rattle.plan_check.proofs.Apart.{count_zero}

-- ---- the start

-- each slot of the ring has an owner at the start
pub first_owner : (ring : RingValue) (slot : Slot) → IsRing ring → is_ring_slot ring slot ≡ true → owner_of ring slot ≡ Some (opening ring slot).owner
first_owner ring slot r h =
    let b = within ring slot h in
    elim (occupied ring [] slot (opening ring slot).owner 0 r b.0 b.1 (omega arith) (inl refl)) [
      | inl f ↦ f.0
      | inr f ↦ absurd (let l = f.1.0 in omega arith)
    ]

-- before the first step the slots that start tell the slots of the opening world
pub slots_start : (ring : RingValue) (plan : List Planned) (rows : List (List SlotNow)) → IsRing ring → ((t : Slot) → slot_now rows t ≡ option_map slot_at_start (owner_of ring t)) → SlotsMeet ring plan rows (opening_world ring)
slots_start ring plan rows r is = record {
  each = λ slot h. (slot_at_start (opening ring slot).owner, is slot ∙ ap (option_map slot_at_start) (first_owner ring slot r h), start slot);
  others = λ slot h. is slot ∙ ap (option_map slot_at_start) (unowned slot (owner_of ring slot) refl h);
}
  where
    start : (slot : Slot) → IsNow ring plan (opening_world ring) slot (slot_at_start (opening ring slot).owner)
    start slot = record {
      owner = ap (λ (k : ℕ). (stage ring plan slot k).owner) (sym none);
      mirror = ap (λ (k : ℕ). (stage ring plan slot k).mirror) (sym none);
      generation = (let z = count_none (λ s. is_some (mirror_at plan s)) (steps_of plan slot) in sym (ap (λ (k : ℕ). k + 0) z));
    }
      where
        none : count (λ s. false) (steps_of plan slot) ≡ 0
        none = count_zero (steps_of plan slot)

    unowned : (slot : Slot) (o : Option NodeId) → owner_of ring slot ≡ o → is_ring_slot ring slot ≡ false → o ≡ None
    unowned slot None e h = refl
    unowned slot (Some x) e h =
        let b = owner-within ring r slot x e in
        let f = and_from (nat_lt slot.partition ring.q) (nat_lt slot.index ring.n) (lt-ltb slot.partition ring.q b.0) (lt-ltb slot.index ring.n b.1) in
        absurd cc

-- ---- steps

-- a step is done, and its slot changes by it
pub slots_do : (ring : RingValue) (plan : List Planned) (w : World) (n : ℕ) (s : Step) (old new : List (List SlotNow)) → IsRing ring → IsPlan plan → Sound ring plan → Reached ring plan w
    → first_failing (guards ring plan w (Do n)) ≡ None → step_at plan n ≡ Some s → SlotsMeet ring plan old w → StepsSlots old new s → SlotsMeet ring plan new (effect ring plan w (Do n))
unfolding guards effect
slots_do ring plan w n s old new is_ring is_plan sound r g at t change =
    let a = all_met (guards ring plan w (Do n)) g in
    let m = slots_stepped ring plan (known ring plan is_ring is_plan sound) w n s old new r.closed (closed_with plan w.done n r.closed (ready plan w n a.1.1.0)) (not-true (w.done n) a.1.0) at t change in
    let k = step_is (record w { done = with_number w.done n }) s in
    rw (done_is ring plan w n s at) (same_slots ring plan new (record w { done = with_number w.done n }) _ (ap (λ (u : World). u.done) k) (ap (λ (u : World). u.lost) k) m)

-- ---- a store that is lost

-- each slot whose group has the node has a generation more
pub slots_lose : (ring : RingValue) (plan : List Planned) (w : World) (x : NodeId) (old new : List (List SlotNow)) → SlotsMeet ring plan old w
    → ((t : Slot) → slot_now new t ≡ (if is_in_group ring plan w t x.0 then option_map (λ (a : SlotNow). record a { generation = a.generation + 1 }) (slot_now old t) else slot_now old t))
    → SlotsMeet ring plan new (effect ring plan w (Lose x))
unfolding effect
slots_lose ring plan w x old new t change = record {
  each = λ slot h. (let e = t.each slot h in by slot (is_in_group ring plan w slot x.0) refl e.0 e.1 e.2);
  others = λ slot h. change slot ∙ ap (λ (o : Option SlotNow). cond (is_in_group ring plan w slot x.0) (option_map raised o) o) (t.others slot h) ∙ none (is_in_group ring plan w slot x.0);
}
  where
    raised : SlotNow → SlotNow
    raised a = record a { generation = a.generation + 1 }

    none : (b : Bool) → ◌≡◌ {A = Option SlotNow} (cond b None None) None
    none true = refl
    none false = refl

    by : (slot : Slot) (b : Bool) → is_in_group ring plan w slot x.0 ≡ b → (a : SlotNow) → slot_now old slot ≡ Some a → IsNow ring plan w slot a
        → (y : SlotNow) × (slot_now new slot ≡ Some y) × IsNow ring plan (effect ring plan w (Lose x)) slot y
    by slot true on a e i = (
      raised a,
      change slot ∙ ap (λ (b : Bool). cond b (option_map raised (slot_now old slot)) (slot_now old slot)) on ∙ ap (option_map raised) e,
      record {
        owner = i.owner;
        mirror = i.mirror;
        generation = (let g = i.generation in let f : a.generation + 1 ≡ mirrors_done plan w slot + (w.lost slot + 1) = omega arith in f)
            ∙ ap (λ (b : Bool). mirrors_done plan w slot + cond b (w.lost slot + 1) (w.lost slot)) (sym on);
      },
    )
    by slot false on a e i = (
      a,
      change slot ∙ ap (λ (b : Bool). cond b (option_map raised (slot_now old slot)) (slot_now old slot)) on ∙ e,
      record {
        owner = i.owner;
        mirror = i.mirror;
        generation = i.generation ∙ ap (λ (b : Bool). mirrors_done plan w slot + cond b (w.lost slot + 1) (w.lost slot)) (sym on);
      },
    )

-- ---- slots that stay

-- a step that neither mirrors nor switches changes no slot
leaving : (rows : List (List SlotNow)) (s : Step) → step_leaves_slots s ≡ true → StepsSlots rows rows s
leaving rows s h t = by (is_on t s) (slot_now rows t)
  where
    same : (a : SlotNow) (s : Step) → step_leaves_slots s ≡ true → stepped a s ≡ a
    same a (step.Mirror s x) h = absurd cc
    same a (step.Switch s) h = absurd cc
    same a s h = refl

    by : (b : Bool) (o : Option SlotNow) → o ≡ cond b (option_map (λ a. stepped a s) o) o
    by true None = refl
    by true (Some a) = ap (λ (z : SlotNow). Some z) (sym (same a s h))
    by false o = refl

do_leaves : (ring : RingValue) (plan : List Planned) (rows : List (List SlotNow)) (w : World) (n : ℕ) → IsRing ring → IsPlan plan → Sound ring plan → Reached ring plan w
    → first_failing (guards ring plan w (Do n)) ≡ None → (o : Option Step) → step_at plan n ≡ o → (elim o [ Some s ↦ step_leaves_slots s | None ↦ true ]) ≡ true → SlotsMeet ring plan rows w
    → SlotsMeet ring plan rows (effect ring plan w (Do n))
unfolding effect
do_leaves ring plan rows w n is_ring is_plan sound r g None at h t = subst (λ (u : World). SlotsMeet ring plan rows u)
    (sym (ap (λ (o : Option Step). elim o as (λ _. World) [ Some x ↦ step_effect (record w { done = with_number w.done n }) x | None ↦ w ]) at)) t
do_leaves ring plan rows w n is_ring is_plan sound r g (Some s) at h t = slots_do ring plan w n s rows rows is_ring is_plan sound r g at t (leaving rows s h)

-- a copy is finished
closes : (ring : RingValue) (plan : List Planned) (rows : List (List SlotNow)) (w : World) (n : ℕ) → IsRing ring → IsPlan plan → Sound ring plan → Reached ring plan w
    → w.is_open n ≡ true → (o : Option Step) → step_at plan n ≡ o → is_some (option_and_then copy_of o) ≡ true → SlotsMeet ring plan rows w
    → SlotsMeet ring plan rows (record w { is_open = without_number w.is_open n; done = with_number w.done n })
closes ring plan rows w n is_ring is_plan sound r on (Some (step.Copy s from)) at h t =
    same_slots ring plan rows (record w { done = with_number w.done n }) _ refl refl
    (slots_stepped ring plan (known ring plan is_ring is_plan sound) w n (step.Copy s from) rows rows r.closed (closed_with plan w.done n r.closed (r.copies.ready n on)) (r.copies.unfinished n on) at t
    (leaving rows (step.Copy s from) refl))
closes ring plan rows w n is_ring is_plan sound r on o at h t = absurd cc

-- an event that leaves the slots as they are
pub slots_stay : (ring : RingValue) (plan : List Planned) (rows : List (List SlotNow)) (w : World) (e : Event) → IsRing ring → IsPlan plan → Sound ring plan → Reached ring plan w
    → leaves_slots plan e ≡ true → first_failing (guards ring plan w e) ≡ None → SlotsMeet ring plan rows w → SlotsMeet ring plan rows (effect ring plan w e)
unfolding guards effect
slots_stay ring plan rows w (Do n) a b c r h g t = do_leaves ring plan rows w n a b c r g (step_at plan n) refl h t
slots_stay ring plan rows w (CloseCopy n) a b c r h g t = (let m = all_met (guards ring plan w (CloseCopy n)) g in closes ring plan rows w n a b c r m.1.0 (step_at plan n) refl m.0 t)
slots_stay ring plan rows w (Lose x) a b c r h g t = absurd cc
slots_stay ring plan rows w e a b c r h g t = same_slots ring plan rows w _ refl refl t

-- a step that leaves the slots as they are
pub slots_stay_do : (ring : RingValue) (plan : List Planned) (rows : List (List SlotNow)) (w : World) (n : ℕ) (s : Step) → IsRing ring → IsPlan plan → Sound ring plan → Reached ring plan w
    → step_at plan n ≡ Some s → step_leaves_slots s ≡ true → first_failing (guards ring plan w (Do n)) ≡ None → SlotsMeet ring plan rows w → SlotsMeet ring plan rows (effect ring plan w (Do n))
slots_stay_do ring plan rows w n s a b c r at h g t =
    slots_stay ring plan rows w (Do n) a b c r (ap (λ (o : Option Step). elim o as (λ _. Bool) [ Some x ↦ step_leaves_slots x | None ↦ true ]) at ∙ h) g t
