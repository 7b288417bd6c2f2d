-- In a slot whose steps fit, a node leaves at a switch, and the switches suffice to know which one.
use Rattle.std.proofs.Common.{◌≡◌, ◌∙◌, ℕ, Bool, true, false, not, cond, List, [], ◌∷◌, Option, Some, None, refl, sym, ap, subst}
use Rattle.std.specs.Prelude.{◌==◌, ◌&&◌, slice_get, option_map, unwrap_or, is_some}
use Rattle.std.proofs.lemmas.Bool.{and_parts, not-true}
use Rattle.ring_names.specs.declared.ids.NodeId.{NodeId}
use Rattle.ring_names.specs.declared.ids.Slot.{Slot}
use Rattle.ring_names.proofs.Logic.{and_not}
use Rattle.plan_text.specs.declared.step.Step.{Step}
use Rattle.plan_text.specs.declared.step.Step.TheVariants.{Join, Mirror, Copy, Switch, Drop, Retire}
use Rattle.plan_text.specs.declared.step.Planned.{Planned}
use Rattle.plan_text.specs.Steps.{is_on}
use Rattle.plan_stage.specs.declared.stage.Stage.{Stage}
use Rattle.plan_stage.specs.Stage.{after, next, fits, is_among}
use Rattle.plan_stage.specs.Occupancy.{is_node, leaving}
use Rattle.plan_stage.specs.Each.{is_switch_of, passes}
use Rattle.plan_stage.specs.Looking.Switches.{next_switch, second_switch}
use Rattle.plan_stage.proofs.Places.{Acts, step_at-is}
use Rattle.plan_stage.proofs.Stages.{after-next}
use Rattle.plan_stage.proofs.Truth.{node-is, node-same}

-- the mirror is another node than the owner
abbrev pub IsApart : Stage → Type 0
IsApart a = (m : NodeId) → a.mirror ≡ Some m → is_node m a.owner ≡ false

pub some_is : (x y : NodeId) → Some x ≡ Some y → x ≡ y
some_is x y e = cc

pub apart-next : (a : Stage) (t : Step) → fits a t ≡ true → IsApart a → IsApart (next a t)
apart-next a (Join y) h g = absurd cc
apart-next a (Mirror slot y) h g = λ m e. (
    let f = and_parts (not (is_some a.mirror) && not (y.0 == a.owner.0)) (not (is_among y a.leftovers)) h in
    let o = and_parts (not (is_some a.mirror)) (not (y.0 == a.owner.0)) f.0 in
    subst (λ (z : NodeId). is_node z a.owner ≡ false) (some_is y m e) (not-true (y.0 == a.owner.0) o.1))
apart-next a (Copy slot from) h g = g
apart-next a (Switch slot) h g = λ m e. absurd cc
apart-next a (Drop slot y) h g = g
apart-next a (Retire y) h g = absurd cc

-- ---- tests

pub passes-is : (test : Step → Bool) (plan : List Planned) (b : ℕ) (x : Planned) → slice_get plan b ≡ Some x → passes test plan b ≡ test x.step
passes-is test plan b x e =
    ap (λ (o : Option Step). elim o as (λ _. Bool) [ Some s ↦ test s | None ↦ false ]) (step_at-is plan b x.step (ap (λ (o : Option Planned). option_map (λ (z : Planned). z.step) o) e))

pub after-is : (plan : List Planned) (a : Stage) (b : ℕ) (x : Planned) → slice_get plan b ≡ Some x → after plan a b ≡ next a x.step
after-is plan a b x e = after-next plan a b x.step (ap (λ (o : Option Planned). option_map (λ (z : Planned). z.step) o) e)

both : (b c : Bool) → b ≡ true → c ≡ false → (b && not c) ≡ true
both b c e f = rw (e, f) refl

node_apart : (x y : NodeId) → is_node x y ≡ false → is_node y x ≡ false
node_apart x y e = by (is_node y x) refl
  where
    by : (b : Bool) → is_node y x ≡ b → b ≡ false
    by false f = refl
    by true f = absurd (let k : is_node x y ≡ true = subst (λ (z : NodeId). is_node x z ≡ true) (sym (node-is y x f)) (node-same x) in cc)

-- ---- the owner leaves at the next switch

to_another : (a : Stage) (o : Option NodeId) → is_some o ≡ true → ((m : NodeId) → o ≡ Some m → is_node m a.owner ≡ false) → is_node a.owner (unwrap_or o a.owner) ≡ false
to_another a None h g = absurd cc
to_another a (Some m) h g = node_apart m a.owner (g m refl)

owner-step : (plan : List Planned) (slot : Slot) (a : Stage) (b : ℕ) (bs : List ℕ) (t : Step) → is_on slot t ≡ true → fits a t ≡ true → IsApart a
    → ((next a t).owner ≡ a.owner → leaving plan a.owner (next a t) bs ≡ next_switch plan slot bs)
    → cond (is_node a.owner a.owner && not (is_node a.owner (next a t).owner)) (Some b) (leaving plan a.owner (next a t) bs) ≡ cond (is_switch_of slot t) (Some b) (next_switch plan slot bs)
owner-step plan slot a b bs (Join y) on h g more = absurd cc
owner-step plan slot a b bs (Mirror s y) on h g more = rw (and_not (is_node a.owner a.owner)) (more refl)
owner-step plan slot a b bs (Copy s from) on h g more = rw (and_not (is_node a.owner a.owner)) (more refl)
owner-step plan slot a b bs (Switch s) on h g more =
    let f = and_parts (is_some a.mirror) a.copied h in
    rw (both (is_node a.owner a.owner) (is_node a.owner (unwrap_or a.mirror a.owner)) (node-same a.owner) (to_another a a.mirror f.0 g), on) refl
owner-step plan slot a b bs (Drop s y) on h g more = rw (and_not (is_node a.owner a.owner)) (more refl)
owner-step plan slot a b bs (Retire y) on h g more = absurd cc

pub leaving-owner : (plan : List Planned) (slot : Slot) (x : NodeId) (a : Stage) (bs : List ℕ) → Acts plan slot a bs → IsApart a → a.owner ≡ x → leaving plan x a bs ≡ next_switch plan slot bs
leaving-owner plan slot x a [] acts g own = refl
leaving-owner plan slot x a (b ∷ bs) acts g own =
    let p = acts.0.0 in
    let is : after plan a b ≡ next a p.step = after-is plan a b p acts.0.1 in
    let later : Acts plan slot (next a p.step) bs = subst (λ (c : Stage). Acts plan slot c bs) is acts.1 in
    let step = owner-step plan slot a b bs p.step acts.0.2 acts.0.3 g (λ o. leaving-owner plan slot a.owner (next a p.step) bs later (apart-next a p.step acts.0.3 g) o) in
    subst (λ (y : NodeId). leaving plan y a (b ∷ bs) ≡ next_switch plan slot (b ∷ bs)) own (
    ap (λ (c : Stage). cond (is_node a.owner a.owner && not (is_node a.owner c.owner)) (Some b) (leaving plan a.owner c bs)) is ∙ step
    ∙ ap (λ (v : Bool). cond v (Some b) (next_switch plan slot bs)) (sym (passes-is (is_switch_of slot) plan b p acts.0.1)))

-- ---- the mirror leaves at the second

mirror-step : (plan : List Planned) (slot : Slot) (x : NodeId) (a : Stage) (bs : List ℕ) (t : Step) → is_on slot t ≡ true → fits a t ≡ true → a.mirror ≡ Some x
    → ((next a t).mirror ≡ Some x → leaving plan x (next a t) bs ≡ second_switch plan slot bs)
    → ((next a t).owner ≡ x → leaving plan x (next a t) bs ≡ next_switch plan slot bs)
    → leaving plan x (next a t) bs ≡ cond (is_switch_of slot t) (next_switch plan slot bs) (second_switch plan slot bs)
mirror-step plan slot x a bs (Join y) on h m second first = absurd cc
mirror-step plan slot x a bs (Mirror s y) on h m second first =
    let f = and_parts (not (is_some a.mirror) && not (y.0 == a.owner.0)) (not (is_among y a.leftovers)) h in
    let o = and_parts (not (is_some a.mirror)) (not (y.0 == a.owner.0)) f.0 in
    absurd (let n = o.0 in let k : is_some a.mirror ≡ true = rw m refl in cc)
mirror-step plan slot x a bs (Copy s from) on h m second first = second m
mirror-step plan slot x a bs (Switch s) on h m second first = rw on (first (rw m refl))
mirror-step plan slot x a bs (Drop s y) on h m second first = second m
mirror-step plan slot x a bs (Retire y) on h m second first = absurd cc

pub leaving-mirror : (plan : List Planned) (slot : Slot) (x : NodeId) (a : Stage) (bs : List ℕ) → Acts plan slot a bs → IsApart a → a.mirror ≡ Some x → leaving plan x a bs ≡ second_switch plan slot bs
leaving-mirror plan slot x a [] acts g m = refl
leaving-mirror plan slot x a (b ∷ bs) acts g m =
    let p = acts.0.0 in
    let is : after plan a b ≡ next a p.step = after-is plan a b p acts.0.1 in
    let later : Acts plan slot (next a p.step) bs = subst (λ (c : Stage). Acts plan slot c bs) is acts.1 in
    let apart = apart-next a p.step acts.0.3 g in
    let step = mirror-step plan slot x a bs p.step acts.0.2 acts.0.3 m (λ n. leaving-mirror plan slot x (next a p.step) bs later apart n) (λ o. leaving-owner plan slot x (next a p.step) bs later apart o) in
    let skip : is_node x a.owner ≡ false = g x m in
    ap (λ (v : Bool). cond (v && not (is_node x (after plan a b).owner)) (Some b) (leaving plan x (after plan a b) bs)) skip
    ∙ ap (λ (c : Stage). leaving plan x c bs) is ∙ step
    ∙ ap (λ (v : Bool). cond v (next_switch plan slot bs) (second_switch plan slot bs)) (sym (passes-is (is_switch_of slot) plan b p acts.0.1))
