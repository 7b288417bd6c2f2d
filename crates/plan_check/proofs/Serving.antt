-- Who has begun to serve a slot, and has not left it, serves it.
use Rattle.std.proofs.Common.{◌≡◌, ◌⊎◌, inl, inr, ◌∙◌, ℕ, zero, suc, ◌+◌, ◌<◌, ◌≤◌, Bool, true, false, not, cond, List, [], ◌∷◌, ◌++◌, length, get_or, take, drop, Option, Some, None, refl, sym, ap, subst, arith}
use Rattle.std.specs.Prelude.{◌&&◌, is_some, unwrap_or, fold, option_map, slice_get}
use Rattle.std.proofs.lemmas.List.{take_more, length-take-le}
use Rattle.std.proofs.lemmas.Bool.{and_parts, cases_lt}
use Rattle.ring_names.specs.declared.ids.NodeId.{NodeId}
use Rattle.ring_names.specs.declared.ids.Slot.{Slot}
use Rattle.ring_table.specs.Value.{RingValue}
use Rattle.plan_text.specs.declared.step.Step.{Step}
use Rattle.plan_text.specs.declared.step.Step.TheVariants.{Join, Mirror, Copy, Switch, Drop, Retire}
use Rattle.plan_text.specs.declared.step.Planned.{Planned}
use Rattle.plan_text.specs.Steps.{steps_of}
use Rattle.plan_stage.specs.declared.stage.Stage.{Stage}
use Rattle.plan_stage.specs.Stage.{opening, stage, after, next, fits}
use Rattle.plan_stage.specs.Clauses.{AllStaged}
use Rattle.plan_stage.specs.Occupancy.{is_node, leaving}
use Rattle.plan_stage.proofs.Stages.{after-next, fits_at-fits, stage-more}
use Rattle.plan_check.specs.Occupies.{FromStart, FromMirror, Serves}
use Rattle.plan_check.proofs.Occupied.{node_same, ends_at, InStage, drop_push, fold_cut}
use Rattle.plan_stage.proofs.Places.{placed}
use Rattle.plan_stage.proofs.Truth.{node-is}

pub leaving_parts : (plan : List Planned) (x : NodeId) (a : Stage) (ss ts : List ℕ) → leaving plan x a (ss ++ ts) ≡ None → (leaving plan x a ss ≡ None) × (leaving plan x (fold (after plan) a ss) ts ≡ None)
leaving_parts plan x a [] ts h = (refl, h)
leaving_parts plan x a (s ∷ ss) ts h = by (ends_at plan x a s) h (leaving_parts plan x (after plan a s) ss ts)
  where
    by : (b : Bool) → cond b (Some s) (leaving plan x (after plan a s) (ss ++ ts)) ≡ None
        → (leaving plan x (after plan a s) (ss ++ ts) ≡ None → (leaving plan x (after plan a s) ss ≡ None) × (leaving plan x (fold (after plan) (after plan a s) ss) ts ≡ None))
        → (cond b (Some s) (leaving plan x (after plan a s) ss) ≡ None) × (leaving plan x (fold (after plan) (after plan a s) ss) ts ≡ None)
    by true e more = absurd cc
    by false e more = more e

not_ended : (b : Bool) (n : ℕ) → cond b (Some n) None ≡ None → b ≡ false
not_ended true n e = absurd cc
not_ended false n e = refl

kept : (b c : Bool) → (b && not c) ≡ false → b ≡ true → c ≡ true
kept b true h e = refl
kept true false h e = absurd cc
kept false false h e = absurd cc

-- ---- one step more

next-keeps : (x : NodeId) (a : Stage) (t : Step) → fits a t ≡ true → (is_node x a.owner && not (is_node x (next a t).owner)) ≡ false → InStage x a → InStage x (next a t)
next-keeps x a (Join y) f stay s = absurd cc
next-keeps x a (Mirror slot y) f stay s = elim s [
  | inl owner ↦ inl owner
  | inr mirror ↦ absurd (taken a.mirror mirror (and_parts (not (is_some a.mirror)) (not (is_node y a.owner)) (and_parts (not (is_some a.mirror) && not (is_node y a.owner)) _ f).0).0)
]
  where
    taken : (o : Option NodeId) → o ≡ Some x → not (is_some o) ≡ true → ⊥
    taken None e n = cc
    taken (Some z) e n = cc
next-keeps x a (Copy slot from) f stay s = elim s [ inl owner ↦ inl owner | inr mirror ↦ inr mirror ]
next-keeps x a (Switch slot) f stay s = elim s [
  | inl owner ↦ inl (node-is x (unwrap_or a.mirror a.owner) (kept (is_node x a.owner) (is_node x (unwrap_or a.mirror a.owner)) stay (node_same x a.owner owner)))
  | inr mirror ↦ inl (sym (ap (λ (o : Option NodeId). unwrap_or o a.owner) mirror))
]
next-keeps x a (Drop slot y) f stay s = elim s [ inl owner ↦ inl owner | inr mirror ↦ inr mirror ]
next-keeps x a (Retire y) f stay s = absurd cc

keeps_on : (ring : RingValue) (plan : List Planned) (slot : Slot) (x : NodeId) → AllStaged ring plan → slot.partition < ring.q → slot.index < ring.n → (m k : ℕ) → m ≤ k → k ≤ length (steps_of plan slot)
    → InStage x (stage ring plan slot m) → leaving plan x (stage ring plan slot m) (drop m (take k (steps_of plan slot))) ≡ None → InStage x (stage ring plan slot k)
keeps_on ring plan slot x staged p i m zero l le s none = (let e : m ≡ 0 = omega arith in subst (λ (n : ℕ). InStage x (stage ring plan slot n)) e s)
keeps_on ring plan slot x staged p i m (suc k) l le s none = elim (cases_lt m (suc k)) [
  | inr h ↦ (let e : m ≡ suc k = omega arith in subst (λ (n : ℕ). InStage x (stage ring plan slot n)) e s)
  | inl h ↦ (
      let steps = steps_of plan slot in
      let n = get_or steps k 0 in
      let within : k < length steps = omega arith in
      let on = placed plan slot k within in
      let plus : suc k ≡ k + 1 = omega arith in
      let at : option_map (λ (z : Planned). z.step) (slice_get plan n) ≡ Some on.0.step = ap (λ (o : Option Planned). option_map (λ (z : Planned). z.step) o) on.1 in
      let fit : fits (stage ring plan slot k) on.0.step ≡ true = sym (fits_at-fits plan (stage ring plan slot k) n on.0.step at) ∙ staged slot p i k within in
      let is : after plan (stage ring plan slot k) n ≡ next (stage ring plan slot k) on.0.step = after-next plan (stage ring plan slot k) n on.0.step at in
      let more : stage ring plan slot (suc k) ≡ next (stage ring plan slot k) on.0.step = ap (stage ring plan slot) plus ∙ stage-more ring plan slot k within ∙ is in
      let taken : take (suc k) steps ≡ take k steps ++ n ∷ [] = ap (λ (j : ℕ). take j steps) plus ∙ take_more steps k 0 within in
      let long : length (take k steps) ≡ k = length-take-le k steps (omega arith) in
      let cut : drop m (take (suc k) steps) ≡ drop m (take k steps) ++ n ∷ [] = ap (drop m) taken ∙ drop_push m (take k steps) (n ∷ []) (omega arith) in
      let parts = leaving_parts plan x (stage ring plan slot m) (drop m (take k steps)) (n ∷ []) (sym (ap (leaving plan x (stage ring plan slot m)) cut) ∙ none) in
      let here : leaving plan x (stage ring plan slot k) (n ∷ []) ≡ None = sym (ap (λ (c : Stage). leaving plan x c (n ∷ [])) (fold_cut plan (opening ring slot) m k steps (omega arith))) ∙ parts.1 in
      let stay : ends_at plan x (stage ring plan slot k) n ≡ false = not_ended (ends_at plan x (stage ring plan slot k) n) n here in
      let before : InStage x (stage ring plan slot k) = keeps_on ring plan slot x staged p i m k (omega arith) (omega arith) s parts.0 in
      subst (InStage x) (sym more) (next-keeps x (stage ring plan slot k) on.0.step fit (subst (λ (c : Stage). (is_node x (stage ring plan slot k).owner && not (is_node x c.owner)) ≡ false) is stay) before))
]

pub serving : (ring : RingValue) (plan : List Planned) (slot : Slot) (x : NodeId) (k : ℕ) → AllStaged ring plan → slot.partition < ring.q → slot.index < ring.n → k ≤ length (steps_of plan slot)
    → FromStart ring plan slot x k ⊎ ((b : ℕ) × FromMirror ring plan slot x k b) → Serves ring plan slot x k
serving ring plan slot x k staged p i le o = elim o [
  | inl f ↦ keeps_on ring plan slot x staged p i 0 k (omega arith) le (inl (sym (ap (λ (q : Option NodeId). unwrap_or q (record { 0 = 0 })) f.0))) f.1
  | inr f ↦ (
      let steps = steps_of plan slot in
      let n = get_or steps f.0 0 in
      let less : f.0 < k = f.1.0 in
      let plus : suc f.0 ≡ f.0 + 1 = omega arith in
      let within : f.0 < length steps = omega arith in
      let at : option_map (λ (z : Planned). z.step) (slice_get plan n) ≡ Some (Mirror slot x) = mirror_at (slice_get plan n) f.1.1 in
      let is : stage ring plan slot (suc f.0) ≡ next (stage ring plan slot f.0) (Mirror slot x) = ap (stage ring plan slot) plus ∙ stage-more ring plan slot f.0 within ∙ after-next plan (stage ring plan slot f.0) n (Mirror slot x) at in
      keeps_on ring plan slot x staged p i (suc f.0) k (omega arith) le (subst (InStage x) (sym is) (inr refl)) f.1.2)
]
  where
    mirror_at : (o : Option Planned) → (elim o as (λ _. Option Step) [ Some z ↦ Some z.step | None ↦ None ]) ≡ Some (Mirror slot x) → option_map (λ (z : Planned). z.step) o ≡ Some (Mirror slot x)
    mirror_at None e = absurd cc
    mirror_at (Some z) e = e
