-- The slots that are kept, once one more step is finished.
use Rattle.std.proofs.Common.{◌≡◌, ◌∙◌, ℕ, ◌+◌, Bool, true, false, cond, List, refl, sym, ap, arith}
use Rattle.std.specs.Prelude.{◌&&◌, Option, Some, None, option_map, unwrap_or, is_some}
use Rattle.ring_names.specs.declared.ids.NodeId.{NodeId}
use Rattle.ring_names.specs.declared.ids.Slot.{Slot}
use Rattle.ring_table.specs.Value.{RingValue}
use Rattle.plan_text.specs.declared.step.Step.{Step}
use Rattle.plan_text.specs.declared.step.Step.TheVariants as step
use Rattle.plan_text.specs.declared.step.Planned.{Planned}
use Rattle.plan_text.specs.Steps.{steps_of, is_on, mirror_of}
use Rattle.plan_stage.specs.declared.stage.Stage.{Stage}
use Rattle.plan_stage.specs.Stage.{stage, next}
use Rattle.plan_stage.specs.Each.{step_at}
use Rattle.plan_runs.specs.World.{World, count, mirror_at, stage_now, mirrors_done}
use Rattle.plan_runs.specs.Effects.{with_number}
use Rattle.plan_runs.specs.Reached.{Closed}
use Rattle.plan_check.proofs.Mirrored.{Known}
use Rattle.store_parts.specs.declared.slots.SlotNow.{SlotNow}
use Rattle.store_parts.specs.Slots.{slot_now}
use Rattle.store_parts.specs.SlotsMeet.{IsNow, SlotsMeet}
use Rattle.store_parts.specs.SlotsStepped.{stepped, StepsSlots}
use Rattle.store_parts.proofs.StageNow.{stage_on, stage_off, mirrors_on, mirrors_off}

-- ---- one slot

switch_is : (x : SlotNow) (o : Option NodeId) → x.mirror ≡ o
    → ((elim o as (λ _. SlotNow) [ Some node ↦ record x { owner = node; mirror = None } | None ↦ x ]).owner ≡ unwrap_or o x.owner)
    × ((elim o as (λ _. SlotNow) [ Some node ↦ record x { owner = node; mirror = None } | None ↦ x ]).mirror ≡ None)
    × ((elim o as (λ _. SlotNow) [ Some node ↦ record x { owner = node; mirror = None } | None ↦ x ]).generation ≡ x.generation)
switch_is x None e = (refl, e, refl)
switch_is x (Some y) e = (refl, refl, refl)

-- it has the owner and the mirror of the next stage
stepped_is : (x : SlotNow) (a : Stage) (s : Step) → x.owner ≡ a.owner → x.mirror ≡ a.mirror → ((stepped x s).owner ≡ (next a s).owner) × ((stepped x s).mirror ≡ (next a s).mirror)
stepped_is x a (step.Join y) o m = (o, m)
stepped_is x a (step.Mirror s y) o m = (o, refl)
stepped_is x a (step.Copy s from) o m = (o, m)
stepped_is x a (step.Switch s) o m = (let k = switch_is x x.mirror refl in (k.0 ∙ ap (λ (z : Option NodeId). unwrap_or z x.owner) m ∙ ap (unwrap_or a.mirror) o, k.1))
stepped_is x a (step.Drop s y) o m = (o, m)
stepped_is x a (step.Retire y) o m = (o, m)

-- its generation is one more by a mirror
stepped_generation : (x : SlotNow) (s : Step) → (stepped x s).generation ≡ cond (is_some (mirror_of s)) (x.generation + 1) x.generation
stepped_generation x (step.Join y) = refl
stepped_generation x (step.Mirror s y) = refl
stepped_generation x (step.Copy s from) = refl
stepped_generation x (step.Switch s) = (switch_is x x.mirror refl).2
stepped_generation x (step.Drop s y) = refl
stepped_generation x (step.Retire y) = refl

more_lost : (b : Bool) (m l : ℕ) → cond b (m + l + 1) (m + l) ≡ cond b (m + 1) m + l
more_lost true m l = omega arith
more_lost false m l = refl

-- ---- all slots

-- nothing that they tell changes
pub same_slots : (ring : RingValue) (plan : List Planned) (rows : List (List SlotNow)) (w u : World) → u.done ≡ w.done → u.lost ≡ w.lost → SlotsMeet ring plan rows w → SlotsMeet ring plan rows u
same_slots ring plan rows w u done lost t = record {
  each = λ slot h. (let e = t.each slot h in (
    e.0,
    e.1,
    record {
      owner = e.2.owner ∙ ap (λ (f : ℕ → Bool). (stage ring plan slot (count f (steps_of plan slot))).owner) (sym done);
      mirror = e.2.mirror ∙ ap (λ (f : ℕ → Bool). (stage ring plan slot (count f (steps_of plan slot))).mirror) (sym done);
      generation = e.2.generation ∙ ap (λ (f : ℕ → Bool). count (λ s. f s && is_some (mirror_at plan s)) (steps_of plan slot) + w.lost slot) (sym done)
          ∙ ap (λ (f : Slot → ℕ). mirrors_done plan u slot + f slot) (sym lost);
    },
  ));
  others = t.others;
}

-- a step that is ready is finished, and its slot changes so
pub slots_stepped : (ring : RingValue) (plan : List Planned) → Known ring plan → (w : World) (n : ℕ) (s : Step) (old new : List (List SlotNow)) → Closed plan w.done → Closed plan (with_number w.done n) → w.done n ≡ false
    → step_at plan n ≡ Some s → SlotsMeet ring plan old w → StepsSlots old new s → SlotsMeet ring plan new (record w { done = with_number w.done n })
slots_stepped ring plan k w n s old new c d off at t change = record {
  each = λ slot h. (let e = t.each slot h in by slot (is_on slot s) refl e.0 e.1 e.2);
  others = λ slot h. none slot (is_on slot s) refl (t.others slot h);
}
  where
    u : World
    u = record w { done = with_number w.done n }

    none : (slot : Slot) (b : Bool) → is_on slot s ≡ b → slot_now old slot ≡ None → slot_now new slot ≡ None
    none slot b on e = change slot ∙ ap (λ (o : Option SlotNow). cond (is_on slot s) (option_map (λ a. stepped a s) o) o) e ∙ both (is_on slot s)
      where
        both : (b : Bool) → ◌≡◌ {A = Option SlotNow} (cond b None None) None
        both true = refl
        both false = refl

    by : (slot : Slot) (b : Bool) → is_on slot s ≡ b → (x : SlotNow) → slot_now old slot ≡ Some x → IsNow ring plan w slot x → (y : SlotNow) × (slot_now new slot ≡ Some y) × IsNow ring plan u slot y
    by slot true on x e i =
        let p = stage_on ring plan k w.done n s slot c d off at on in
        let q = stepped_is x (stage_now ring plan w slot) s i.owner i.mirror in (
          stepped x s,
          change slot ∙ ap (λ (b : Bool). cond b (option_map (λ a. stepped a s) (slot_now old slot)) (slot_now old slot)) on ∙ ap (option_map (λ (a : SlotNow). stepped a s)) e,
          record {
            owner = q.0 ∙ ap (λ (a : Stage). a.owner) (sym p);
            mirror = q.1 ∙ ap (λ (a : Stage). a.mirror) (sym p);
            generation = stepped_generation x s ∙ ap (λ (g : ℕ). cond (is_some (mirror_of s)) (g + 1) g) i.generation ∙ more_lost (is_some (mirror_of s)) (mirrors_done plan w slot) (w.lost slot)
                ∙ ap (λ (g : ℕ). g + w.lost slot) (sym (mirrors_on ring plan k w.done n s slot off at on));
          },
        )
    by slot false on x e i =
        let p = stage_off ring plan w.done n s slot at on in (
          x,
          change slot ∙ ap (λ (b : Bool). cond b (option_map (λ a. stepped a s) (slot_now old slot)) (slot_now old slot)) on ∙ e,
          record {
            owner = i.owner ∙ ap (λ (a : Stage). a.owner) (sym p);
            mirror = i.mirror ∙ ap (λ (a : Stage). a.mirror) (sym p);
            generation = i.generation ∙ ap (λ (g : ℕ). g + w.lost slot) (sym (mirrors_off plan w.done n s slot at on));
          },
        )

-- ---- changes of one slot
