-- The stages of a slot whose steps fit.
use Rattle.std.proofs.Common.{◌≡◌, ◌∙◌, ℕ, zero, suc, ◌+◌, ◌<◌, ◌≤◌, Bool, true, false, not, cond, List, [], ◌∷◌, length, get_or, Option, Some, None, refl, sym, ap, subst, arith}
use Rattle.std.specs.Prelude.{◌==◌, ◌&&◌, ◌||◌, nat_lt, slice_get, option_map, unwrap_or, is_some}
use Rattle.std.proofs.lemmas.Bool.{and_parts, not-true}
use Rattle.ring_names.specs.declared.ids.NodeId.{NodeId}
use Rattle.ring_names.specs.declared.ids.Slot.{Slot}
use Rattle.ring_table.specs.Value.{RingValue}
use Rattle.plan_text.specs.declared.step.Step.{Step}
use Rattle.plan_text.specs.declared.step.Step.TheVariants.{Join, Mirror, Copy, Switch, Drop, Retire}
use Rattle.plan_text.specs.declared.step.Planned.{Planned}
use Rattle.plan_text.specs.Steps.{steps_of}
use Rattle.plan_stage.specs.declared.stage.Stage.{Stage}
use Rattle.plan_stage.specs.Stage.{stage, next, fits, is_among, with_node, without_node}
use Rattle.plan_stage.specs.Clauses.{AllStaged}
use Rattle.plan_stage.proofs.Stages.{after-next, fits_at-fits, stage-more}
use Rattle.plan_check.specs.Occupies.{IsGoodMirror, IsGoodStage}
use Rattle.plan_stage.proofs.Places.{placed}

-- who is among leftovers once a node is put among them, or is taken out
among-with : (x y : NodeId) (ys : List NodeId) → (x.0 == y.0) ≡ false → is_among x ys ≡ false → is_among x (with_node y ys) ≡ false
among-with x y [] apart out = rw apart refl
among-with x y (z ∷ zs) apart out = by (nat_lt y.0 z.0) (y.0 == z.0) (among-with x y zs apart)
  where
    out_of : (b c : Bool) → (b || c) ≡ false → c ≡ false
    out_of true c h = absurd cc
    out_of false c h = h

    first_of : (b c : Bool) → (b || c) ≡ false → b ≡ false
    first_of true c h = absurd cc
    first_of false c h = refl

    by : (b c : Bool) → (is_among x zs ≡ false → is_among x (with_node y zs) ≡ false) → is_among x (cond b (y ∷ z ∷ zs) (cond c (z ∷ zs) (z ∷ with_node y zs))) ≡ false
    by true c more = rw (apart, out) refl
    by false true more = out
    by false false more = rw (first_of (x.0 == z.0) (is_among x zs) out, more (out_of (x.0 == z.0) (is_among x zs) out)) refl

among-without : (x y : NodeId) (ys : List NodeId) → is_among x ys ≡ false → is_among x (without_node y ys) ≡ false
among-without x y [] out = refl
among-without x y (z ∷ zs) out = by (y.0 == z.0) (among-without x y zs)
  where
    out_of : (b c : Bool) → (b || c) ≡ false → c ≡ false
    out_of true c h = absurd cc
    out_of false c h = h

    first_of : (b c : Bool) → (b || c) ≡ false → b ≡ false
    first_of true c h = absurd cc
    first_of false c h = refl

    by : (b : Bool) → (is_among x zs ≡ false → is_among x (without_node y zs) ≡ false) → is_among x (cond b zs (z ∷ without_node y zs)) ≡ false
    by true more = out_of (x.0 == z.0) (is_among x zs) out
    by false more = rw (first_of (x.0 == z.0) (is_among x zs) out, more (out_of (x.0 == z.0) (is_among x zs) out)) refl

-- ---- a step that fits keeps a stage good

mirror-without : (a : Stage) (y : NodeId) (o : Option NodeId) → IsGoodMirror a o → IsGoodMirror (record { owner = a.owner; mirror = a.mirror; copied = a.copied; leftovers = without_node y a.leftovers }) o
mirror-without a y None g = tt
mirror-without a y (Some m) g = (g.0, among-without m y a.leftovers g.1)

switch-good : (a : Stage) (o : Option NodeId) → is_some o ≡ true → is_among a.owner a.leftovers ≡ false → IsGoodMirror a o → is_among (unwrap_or o a.owner) (with_node a.owner a.leftovers) ≡ false
switch-good a None h own g = absurd cc
switch-good a (Some m) h own g = among-with m a.owner a.leftovers g.0 g.1

next-good : (a : Stage) (t : Step) → fits a t ≡ true → IsGoodStage a → IsGoodStage (next a t)
next-good a (Join y) h g = g
next-good a (Mirror slot y) h g =
    let f = and_parts (not (is_some a.mirror) && not (y.0 == a.owner.0)) (not (is_among y a.leftovers)) h in
    let o = and_parts (not (is_some a.mirror)) (not (y.0 == a.owner.0)) f.0 in
    (g.0, (not-true (y.0 == a.owner.0) o.1, not-true (is_among y a.leftovers) f.1))
next-good a (Copy slot from) h g = good_copied a.mirror g.1
  where
    good_copied : (o : Option NodeId) → IsGoodMirror a o → (is_among a.owner a.leftovers ≡ false) × IsGoodMirror (record { owner = a.owner; mirror = a.mirror; copied = true; leftovers = a.leftovers }) o
    good_copied None m = (g.0, tt)
    good_copied (Some z) m = (g.0, m)
next-good a (Switch slot) h g =
    let f = and_parts (is_some a.mirror) a.copied h in
    (switch-good a a.mirror f.0 g.0 g.1, tt)
next-good a (Drop slot y) h g = (among-without a.owner y a.leftovers g.0, mirror-without a y a.mirror g.1)
next-good a (Retire y) h g = g

pub good-stages : (ring : RingValue) (plan : List Planned) (slot : Slot) → AllStaged ring plan → slot.partition < ring.q → slot.index < ring.n → (k : ℕ) → k ≤ length (steps_of plan slot) → IsGoodStage (stage ring plan slot k)
good-stages ring plan slot staged p i zero le = (refl, tt)
good-stages ring plan slot staged p i (suc k) le =
    let n = get_or (steps_of plan slot) k 0 in
    let within : k < length (steps_of plan slot) = omega arith in
    let on = placed plan slot k within in
    let at : option_map (λ (z : Planned). z.step) (slice_get plan n) ≡ Some on.0.step = ap (λ (o : Option Planned). option_map (λ (z : Planned). z.step) o) on.1 in
    let fit : fits (stage ring plan slot k) on.0.step ≡ true = sym (fits_at-fits plan (stage ring plan slot k) n on.0.step at) ∙ staged slot p i k within in
    let plus : suc k ≡ k + 1 = omega arith in
    let more : stage ring plan slot (suc k) ≡ next (stage ring plan slot k) on.0.step = ap (stage ring plan slot) plus ∙ stage-more ring plan slot k within ∙ after-next plan (stage ring plan slot k) n on.0.step at in
    subst IsGoodStage (sym more) (next-good (stage ring plan slot k) on.0.step fit (good-stages ring plan slot staged p i k (omega arith)))
