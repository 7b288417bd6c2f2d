-- All chunks of a copied stage are given, and none is once a mirror has begun.
use Rattle.std.proofs.Common.{◌≡◌, ◌∙◌, inl, inr, ℕ, zero, suc, ◌<◌, ◌≤◌, Bool, true, false, List, length, get_or, Option, Some, None, refl, sym, ap, subst}
use Rattle.std.proofs.Common.{arith, add-one, lt-ltb}
use Rattle.std.specs.Prelude.{◌&&◌, nat_lt, slice_get, option_map, option_and_then, is_some}
use Rattle.std.proofs.lemmas.Bool.{le-ltb, cases_lt}
use Rattle.ring_names.specs.Lists.{has}
use Rattle.ring_names.specs.declared.ids.Slot.{Slot}
use Rattle.ring_table.specs.Value.{RingValue}
use Rattle.plan_text.specs.declared.step.Source.{Source}
use Rattle.plan_text.specs.declared.step.Step.{Step}
use Rattle.plan_text.specs.declared.step.Step.TheVariants.{Join, Mirror, Copy, Switch, Drop, Retire}
use Rattle.plan_text.specs.declared.step.Planned.{Planned}
use Rattle.plan_text.specs.Steps.{steps_of, is_on, copy_of, mirror_of}
use Rattle.plan_stage.specs.declared.stage.Stage.{Stage}
use Rattle.plan_stage.specs.Stage.{stage, next}
use Rattle.plan_stage.specs.Each.{step_at}
use Rattle.plan_stage.proofs.Stages.{after-next, stage-more}
use Rattle.plan_stage.proofs.Places.{placed}
use Rattle.plan_stage.proofs.Truth.{slot-is, slot-same}
use Rattle.plan_runs.specs.World.{World, count, copy_at, mirror_at, stage_now, mirrors_done}
use Rattle.plan_runs.specs.Effects.{with_number}
use Rattle.plan_check.specs.Firm.{mirrors_before, IsGiven}
use Rattle.plan_runs.specs.Reached.{Ready, Closed, CopiesFit}
use Rattle.plan_runs.proofs.Prefix.{found, rising, IsPrefix, prefix, count_same}
use Rattle.plan_check.proofs.Mirrored.{Known, rises, down}
use Rattle.plan_check.proofs.Numbering.{both_off, mirrors_up, mirrors_ahead}
use Rattle.plan_check.proofs.Partakers.{copy_is}
use Rattle.plan_stage.proofs.Holders.{has-step}

-- ---- a copied stage

-- among the slot's first k steps stands a copy, and no mirror behind it
pub record CopiedAt (plan : List Planned) (slot : Slot) (k : ℕ) : Type 0 where
  pub place : ℕ
  pub less : place < k
  pub from : Source
  pub copy : step_at plan (get_or (steps_of plan slot) place 0) ≡ Some (Copy slot from)
  pub behind : (i : ℕ) → place ≤ i → i < k → is_some (mirror_at plan (get_or (steps_of plan slot) i 0)) ≡ false

-- another step, which is not a mirror
further : (plan : List Planned) (slot : Slot) (k : ℕ) → is_some (mirror_at plan (get_or (steps_of plan slot) k 0)) ≡ false → CopiedAt plan slot k
    → CopiedAt plan slot (suc k)
further plan slot k none c = record { place = c.place; less = (let l = c.less in omega arith); from = c.from; copy = c.copy; behind = behind }
  where
    behind : (i : ℕ) → c.place ≤ i → i < suc k → is_some (mirror_at plan (get_or (steps_of plan slot) i 0)) ≡ false
    behind i l m = elim (cases_lt i k) [
      | inl h ↦ c.behind i l h
      | inr h ↦ (let e : k ≡ i = omega arith in subst (λ j. is_some (mirror_at plan (get_or (steps_of plan slot) j 0)) ≡ false) e none)
    ]

-- the last step is the copy
last : (plan : List Planned) (slot : Slot) (k : ℕ) (from : Source) → step_at plan (get_or (steps_of plan slot) k 0) ≡ Some (Copy slot from)
    → CopiedAt plan slot (suc k)
last plan slot k from at = record { place = k; less = omega arith; from = from; copy = at; behind = behind }
  where
    behind : (i : ℕ) → k ≤ i → i < suc k → is_some (mirror_at plan (get_or (steps_of plan slot) i 0)) ≡ false
    behind i l m =
        let e : k ≡ i = omega arith in
        subst (λ j. is_some (mirror_at plan (get_or (steps_of plan slot) j 0)) ≡ false) e (ap (λ (o : Option Step). is_some (option_and_then mirror_of o)) at)

-- so it is after the first k steps where the stage is copied
pub copied_at : (ring : RingValue) (plan : List Planned) (slot : Slot) (k : ℕ) → k ≤ length (steps_of plan slot) → (stage ring plan slot k).copied ≡ true
    → CopiedAt plan slot k
copied_at ring plan slot zero le c = absurd cc
copied_at ring plan slot (suc k) le c = by on.0.step refl (λ e. copied_at ring plan slot k (omega arith) e)
  where
    n : ℕ
    n = get_or (steps_of plan slot) k 0

    on : (x : Planned) × (slice_get plan n ≡ Some x) × (is_on slot x.step ≡ true)
    on = placed plan slot k (omega arith)

    at : step_at plan n ≡ Some on.0.step
    at = ap (λ (o : Option Planned). elim o as (λ _. Option Step) [ Some z ↦ Some z.step | None ↦ None ]) on.1

    more : stage ring plan slot (suc k) ≡ next (stage ring plan slot k) on.0.step
    more =
        ap (stage ring plan slot) (sym (add-one k)) ∙ stage-more ring plan slot k (omega arith) ∙ after-next plan (stage ring plan slot k) n on.0.step
        (ap (λ (o : Option Planned). option_map (λ (z : Planned). z.step) o) on.1)

    copied_by : (t : Step) → on.0.step ≡ t → (next (stage ring plan slot k) t).copied ≡ true
    copied_by t e = subst (λ (s : Step). (next (stage ring plan slot k) s).copied ≡ true) e (subst (λ (a : Stage). a.copied ≡ true) more c)

    by : (t : Step) → on.0.step ≡ t → ((stage ring plan slot k).copied ≡ true → CopiedAt plan slot k) → CopiedAt plan slot (suc k)
    by (Join y) e before = absurd (let o : is_on slot (Join y) ≡ true = ap (is_on slot) (sym e) ∙ on.2 in cc)
    by (Mirror s y) e before = absurd (let f = copied_by (Mirror s y) e in cc)
    by (Copy s from) e before =
        let o : is_on slot (Copy s from) ≡ true = ap (is_on slot) (sym e) ∙ on.2 in
        last plan slot k from (at ∙ ap (λ (t : Step). Some t) e ∙ ap (λ (z : Slot). Some (Copy z from)) (sym (slot-is slot s o)))
    by (Switch s) e before = absurd (let f = copied_by (Switch s) e in cc)
    by (Drop s y) e before =
        further plan slot k (ap (λ (o : Option Step). is_some (option_and_then mirror_of o)) (at ∙ ap (λ (t : Step). Some t) e))
        (before (copied_by (Drop s y) e))
    by (Retire y) e before = absurd (let o : is_on slot (Retire y) ≡ true = ap (is_on slot) (sym e) ∙ on.2 in cc)

-- ---- given chunks

-- each chunk of a slot whose stage is copied is given
pub copied_given : (ring : RingValue) (plan : List Planned) → Known ring plan → (w : World) (slot : Slot) (c : ℕ) → Closed plan w.done
    → CopiesFit plan w.done w.is_open w.marked → (stage_now ring plan w slot).copied ≡ true → c < 16
    → IsGiven plan w slot c
copied_given ring plan k w slot c closed fit copied l = (
  n,
  a.from,
  ap (option_and_then copy_of) a.copy,
  fit.copied n c (ap (λ (o : Option Step). is_some (option_and_then copy_of o)) a.copy)
      (p.below a.place a.less) l,
  same,
)
  where
    ss : List ℕ
    ss = steps_of plan slot

    p : IsPrefix w.done ss (count w.done ss)
    p = prefix w.done ss (down ring plan k w.done closed slot)

    a : CopiedAt plan slot (count w.done ss)
    a = copied_at ring plan slot (count w.done ss) p.within copied

    n : ℕ
    n = get_or ss a.place 0

    at_place : (m i : ℕ) → i < length ss → get_or ss i 0 ≡ m → (nat_lt m n && is_some (mirror_at plan m)) ≡ (w.done m && is_some (mirror_at plan m))
    at_place m i h e = elim (cases_lt i a.place) [
      | inl f ↦ (
          let r = rising ss (rises ring plan k slot) i a.place f (let w = p.within in let l = a.less in omega arith) in
          let less : nat_lt m n ≡ true = lt-ltb m n (omega arith) in
          let d : w.done m ≡ true = subst (λ z. w.done z ≡ true) e (p.below i (let l = a.less in omega arith)) in
          rw (less, d) refl)
      | inr f ↦ elim (cases_lt i (count w.done ss)) [
        | inl g ↦ both_off (nat_lt m n) (w.done m) (is_some (mirror_at plan m)) (subst (λ z. is_some (mirror_at plan z) ≡ false) e (a.behind i f g))
        | inr g ↦ (
            let r = rising ss (rises ring plan k slot) a.place i (let l = a.less in omega arith) h in
            let less : nat_lt m n ≡ false = le-ltb m n (omega arith) in
            let d : w.done m ≡ false = subst (λ z. w.done z ≡ false) e (p.above i g h) in
            rw (less, d) refl)
      ]
    ]

    same : mirrors_before plan slot n ≡ mirrors_done plan w slot
    same =
        count_same (λ s. w.done s && is_some (mirror_at plan s)) (λ s. nat_lt s n && is_some (mirror_at plan s)) ss
        (λ m i. (let q = found m ss i in at_place m q.0 q.1 q.2))

-- once a mirror of the slot has begun, no chunk is given
pub none_given : (ring : RingValue) (plan : List Planned) → Known ring plan
    → (D : ℕ → Bool) (marked : ℕ → ℕ → Bool) (n m c : ℕ) (slot : Slot) (from : Source) → Closed plan D → ((a b : ℕ) → marked a b ≡ true → Ready plan D a)
    → D n ≡ false → has n (steps_of plan slot) ≡ true → is_some (mirror_at plan n) ≡ true → copy_at plan m ≡ Some (slot, from) → marked m c ≡ true
    → mirrors_before plan slot m ≡ count (λ s. with_number D n s && is_some (mirror_at plan s)) (steps_of plan slot) → ⊥
none_given ring plan k D marked n m c slot from closed ready off h is copy mark same =
    let at : step_at plan m ≡ Some (Copy slot from) = copy_is (step_at plan m) slot from copy in
    let up = mirrors_up plan D n slot h off is in
    let ahead = mirrors_ahead ring plan k D m slot closed (ready m c mark) (has-step plan slot m (Copy slot from) at (slot-same slot)) in
    absurd (omega arith)
