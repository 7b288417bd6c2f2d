-- Who serves a slot after one more step, and who takes part in that step.
use Rattle.std.proofs.Common.{◌≡◌, ℕ, suc, zero, ◌+◌, ◌<◌, Bool, true, false, cond, List, [], ◌∷◌, ◌++◌, length, take, Option, Some, None, refl, sym, ap, ◌∙◌, arith}
use Rattle.std.specs.Prelude.{◌&&◌, ◌||◌, ◌==◌, nat_lt, slice_get, option_map, fold, unwrap_or}
use Rattle.std.specs.List.{list_all}
use Rattle.std.proofs.lemmas.Bool.{lt-ltb, and_parts}
use Rattle.std.proofs.lemmas.Bool.Decides.{nat_tests}
use Rattle.std.proofs.lemmas.List.Sums.{fold_push}
use Rattle.ring_names.specs.declared.ids.NodeId.{NodeId}
use Rattle.ring_names.specs.declared.ids.Slot.{Slot}
use Rattle.ring_table.specs.declared.allowance.NodeSide.{NodeSide}
use Rattle.ring_table.specs.declared.allowance.Side.{Side}
use Rattle.ring_table.specs.declared.allowance.Side.TheVariants.{Both, Take, Give}
use Rattle.ring_table.specs.Value.{RingValue, owner_of}
use Rattle.plan_cover.specs.Clauses.{has_side}
use Rattle.plan_text.specs.declared.step.Step.{Step}
use Rattle.plan_text.specs.declared.step.Step.TheVariants.{Join, Mirror, Copy, Switch, Drop, Retire}
use Rattle.plan_text.specs.declared.step.Planned.{Planned}
use Rattle.plan_text.specs.Steps.{is_on, steps_from, steps_of}
use Rattle.plan_text.proofs.Pushed.{steps_of-push}
use Rattle.plan_stage.specs.declared.stage.Stage.{Stage}
use Rattle.plan_stage.specs.Stage.{is_among, with_node, next, after, opening}
use Rattle.plan_stage.specs.Parties.{count_below, stage_before, source_slots, owners_before, sources_of, target_of, with_target, on_side}
use Rattle.plan_stage.proofs.Stages.{after-next}
use Rattle.plan_cover.specs.declared.present.Serving.{Serving}
use Rattle.plan_cover.specs.Looking.Serving.{serving_of, after_step, is_the_mirror, owns_some, counts, is_party}
use Rattle.plan_stage.specs.Occupancy.{is_node}
use Rattle.plan_cover.specs.Looking.Numbers.{numbers_from, takes_part, is_last, with_last_if}
use Rattle.plan_cover.proofs.Counting.{take-step, take-length, numbers-take, numbers-between, not_last}
use Rattle.plan_stage.proofs.Slots.{none_below}

-- ---- the steps of a slot among the first of a plan

some_by : (b : Bool) (m k : ℕ) (ss ts : List ℕ) → k < m → take (count_below m ss) ss ≡ ts → take (count_below m (cond b (k ∷ ss) ss)) (cond b (k ∷ ss) ss) ≡ cond b (k ∷ ts) ts
some_by true m k ss ts l e = (let s : count_below m ss + 1 ≡ suc (count_below m ss) = omega arith in rw (lt-ltb k m l, s) (ap (λ zs. k ∷ zs) e))
some_by false m k ss ts l e = e

taken : (k n m : ℕ) (plan : List Planned) (s : Slot) → m ≡ k + n → take (count_below m (steps_from k plan s)) (steps_from k plan s) ≡ steps_from k (take n plan) s
taken k zero m plan s e = rw (none_below m k plan s (omega arith)) refl
taken k (suc n) m [] s e = refl
taken k (suc n) m (p ∷ ps) s e =
    some_by (is_on s p.step) m k (steps_from (k + 1) ps s) (steps_from (k + 1) (take n ps) s) (omega arith) (taken (k + 1) n m ps s (omega arith))

stage_of_first : (ring : RingValue) (plan : List Planned) (s : Slot) (n : ℕ) → stage_before ring plan s n ≡ fold (after plan) (opening ring s) (steps_of (take n plan) s)
stage_of_first ring plan s n = ap (fold (after plan) (opening ring s)) (taken 0 n n plan s (omega arith))

step_is : (o : Option Planned) (p : Planned) → o ≡ Some p → option_map (λ (x : Planned). x.step) o ≡ Some p.step
step_is o p e = rw e refl

after_by : (b : Bool) (ring : RingValue) (plan : List Planned) (s : Slot) (n : ℕ) (ss : List ℕ) → fold (after plan) (opening ring s) (cond b (ss ++ n ∷ []) ss) ≡ cond b (after plan (fold (after plan) (opening ring s) ss) n) (fold (after plan) (opening ring s) ss)
after_by true ring plan s n ss = fold_push (after plan) (opening ring s) ss n
after_by false ring plan s n ss = refl

pub stage-next : (ring : RingValue) (plan : List Planned) (s : Slot) (n : ℕ) (p : Planned) → slice_get plan n ≡ Some p → stage_before ring plan s (n + 1) ≡ cond (is_on s p.step) (next (stage_before ring plan s n) p.step) (stage_before ring plan s n)
stage-next ring plan s n p e =
    let f : List ℕ → Stage = fold (after plan) (opening ring s) in
    let a = stage_of_first ring plan s n in
    let g : steps_of (take (n + 1) plan) s ≡ cond (is_on s p.step) (steps_of (take n plan) s ++ n ∷ []) (steps_of (take n plan) s) =
    ap (λ (q : List Planned). steps_of q s) (take-step plan n p e) ∙ (rw (take-length plan n p e) at (steps_of-push (take n plan) p s)) in
    stage_of_first ring plan s (n + 1) ∙ ap f g ∙ after_by (is_on s p.step) ring plan s n (steps_of (take n plan) s)
    ∙ ap (λ (c : Stage). cond (is_on s p.step) c (f (steps_of (take n plan) s))) (after-next plan (f (steps_of (take n plan) s)) n p.step (step_is (slice_get plan n) p e))
    ∙ ap (λ (c : Stage). cond (is_on s p.step) (next c p.step) c) (sym a)

-- ---- who serves

pub serving-first : (ring : RingValue) (plan : List Planned) (s : Slot) → record { owner = unwrap_or (owner_of ring s) (record { 0 = 0 }); mirror = None } ≡ serving_of (stage_before ring plan s 0)
serving-first ring plan s = ap serving_of (sym (stage_of_first ring plan s 0))

served : (a : Stage) (t : Step) → serving_of (next a t) ≡ after_step (serving_of a) t
served a (Join x) = refl
served a (Mirror s x) = refl
served a (Copy s from) = refl
served a (Switch s) = refl
served a (Drop s x) = refl
served a (Retire x) = refl

served_by : (b : Bool) (a : Stage) (t : Step) (v : Serving) → v ≡ serving_of a → cond b (after_step v t) v ≡ serving_of (cond b (next a t) a)
served_by true a t v e = ap (λ (w : Serving). after_step w t) e ∙ sym (served a t)
served_by false a t v e = e

pub serving-next : (ring : RingValue) (plan : List Planned) (s : Slot) (n : ℕ) (p : Planned) (v w : Serving) → slice_get plan n ≡ Some p → v ≡ serving_of (stage_before ring plan s n) → w ≡ cond (is_on s p.step) (after_step v p.step) v → w ≡ serving_of (stage_before ring plan s (n + 1))
serving-next ring plan s n p v w e before is =
    is ∙ served_by (is_on s p.step) (stage_before ring plan s n) p.step v before ∙ ap serving_of (sym (stage-next ring plan s n p e))

-- ---- who takes part

among_by : (a b : Bool) (x y z : NodeId) (zs : List NodeId) (r : Bool) → (x.0 == y.0) ≡ (x.0 == y.0) → is_among x (with_node y zs) ≡ ((x.0 == y.0) || r) → r ≡ is_among x zs → (b ≡ true → (x.0 == y.0) ≡ (x.0 == z.0)) → is_among x (cond a (y ∷ z ∷ zs) (cond b (z ∷ zs) (z ∷ with_node y zs))) ≡ ((x.0 == y.0) || ((x.0 == z.0) || r))
among_by true b x y z zs r k e f g = rw f refl
among_by false true x y z zs r k e f g = rw (← f, g refl) (twice (x.0 == z.0) r)
  where
    twice : (c d : Bool) → (c || d) ≡ (c || (c || d))
    twice true d = refl
    twice false d = refl
among_by false false x y z zs r k e f g = rw e (crossed (x.0 == z.0) (x.0 == y.0) r)
  where
    crossed : (c d t : Bool) → (c || (d || t)) ≡ (d || (c || t))
    crossed true true t = refl
    crossed true false t = refl
    crossed false true t = refl
    crossed false false t = refl

equal : (a b c : ℕ) → (b == c) ≡ true → (a == b) ≡ (a == c)
equal a b c e = grind (arith, nat_tests)

among-with : (x y : NodeId) (zs : List NodeId) → is_among x (with_node y zs) ≡ ((x.0 == y.0) || is_among x zs)
among-with x y [] = refl
among-with x y (z ∷ zs) = among_by (nat_lt y.0 z.0) (y.0 == z.0) x y z zs (is_among x zs) refl (among-with x y zs) refl (equal x.0 y.0 z.0)

among-target : (o : Option NodeId) (x : NodeId) (zs : List NodeId) → is_among x (with_target o zs) ≡ (is_the_mirror o x || is_among x zs)
among-target None x zs = refl
among-target (Some y) x zs = among-with x y zs

among-owners : (ring : RingValue) (plan : List Planned) (n : ℕ) (serve : Slot → Serving) (x : NodeId) (ss : List Slot) → ((s : Slot) → serve s ≡ serving_of (stage_before ring plan s n)) → is_among x (owners_before ring plan n ss) ≡ owns_some serve ss x
among-owners ring plan n serve x [] same = refl
among-owners ring plan n serve x (s ∷ ss) same =
    among-with x (stage_before ring plan s n).owner (owners_before ring plan n ss) ∙ rw (among-owners ring plan n serve x ss same, ap (λ (v : Serving). is_node x v.owner) (same s)) refl

-- ---- by side

among-side : (side : Side) (target : Option NodeId) (x : NodeId) (sources : List NodeId) → is_among x (on_side side target sources) ≡ ((counts side Take && is_the_mirror target x) || (counts side Give && is_among x sources))
among-side Both target x sources = among-target target x sources
among-side Take target x sources = among-target target x []
among-side Give target x sources = refl

no_one : (h : Bool) (side : Side) (x : NodeId) → (h && is_among x (on_side side None [])) ≡ false
no_one true Both x = refl
no_one true Take x = refl
no_one true Give x = refl
no_one false side x = refl

with_both : (h a m b o : Bool) → (h && ((a && m) || (b && o))) ≡ (((h && a) && m) || ((h && b) && o))
with_both true a m b o = refl
with_both false a m b o = refl

party : (ring : RingValue) (plan : List Planned) (n : ℕ) (serve : Slot → Serving) (y : NodeSide) (t : Step) → ((s : Slot) → serve s ≡ serving_of (stage_before ring plan s n))
    → (has_side ring y.node y.side && is_among y.node (on_side y.side (target_of ring plan n t) (sources_of ring plan n t))) ≡ is_party ring serve t y
party ring plan n serve y (Join z) same = no_one (has_side ring y.node y.side) y.side y.node
party ring plan n serve y (Mirror s z) same = no_one (has_side ring y.node y.side) y.side y.node
party ring plan n serve y (Copy s from) same =
    let h : Bool = has_side ring y.node y.side in
    let sources : List NodeId = owners_before ring plan n (source_slots s from) in
    let owns : is_among y.node sources ≡ owns_some serve (source_slots s from) y.node = among-owners ring plan n serve y.node (source_slots s from) same in
    let mirror : is_the_mirror (stage_before ring plan s n).mirror y.node ≡ is_the_mirror (serve s).mirror y.node = ap (λ (v : Serving). is_the_mirror v.mirror y.node) (sym (same s)) in
    ap (λ (b : Bool). h && b) (among-side y.side (stage_before ring plan s n).mirror y.node sources)
    ∙ with_both h (counts y.side Take) (is_the_mirror (stage_before ring plan s n).mirror y.node) (counts y.side Give) (is_among y.node sources)
    ∙ ap (λ (b : Bool). ((h && counts y.side Take) && b) || ((h && counts y.side Give) && is_among y.node sources)) mirror
    ∙ ap (λ (b : Bool). ((h && counts y.side Take) && is_the_mirror (serve s).mirror y.node) || ((h && counts y.side Give) && b)) owns
party ring plan n serve y (Switch s) same = no_one (has_side ring y.node y.side) y.side y.node
party ring plan n serve y (Drop s z) same = no_one (has_side ring y.node y.side) y.side y.node
party ring plan n serve y (Retire z) same = no_one (has_side ring y.node y.side) y.side y.node

abbrev parties_in : RingValue → List Planned → Side → ℕ → Option Planned → List NodeId
parties_in ring plan side n o = elim o [ Some step ↦ on_side side (target_of ring plan n step.step) (sources_of ring plan n step.step) | None ↦ [] ]

pub takes_part-party : (ring : RingValue) (plan : List Planned) (n : ℕ) (serve : Slot → Serving) (y : NodeSide) (p : Planned) → slice_get plan n ≡ Some p → ((s : Slot) → serve s ≡ serving_of (stage_before ring plan s n)) → takes_part ring plan y n p ≡ is_party ring serve p.step y
takes_part-party ring plan n serve y p e same = ap (λ (o : Option Planned). has_side ring y.node y.side && is_among y.node (parties_in ring plan y.side n o)) e ∙ party ring plan n serve y p.step same

-- ---- what holds of each step holds of one

pub all-at : (f : Planned → Bool) (xs : List Planned) (n : ℕ) (p : Planned) → list_all f xs ≡ true → slice_get xs n ≡ Some p → f p ≡ true
all-at f [] n p h e = absurd cc
all-at f (x ∷ xs) zero p h e = (let s : x ≡ p = cc in rw (← s) (and_parts (f x) (list_all f xs) h).0)
all-at f (x ∷ xs) (suc n) p h e = all-at f xs n p (and_parts (f x) (list_all f xs) h).1 e

-- the whole of a step of which only what it does is known
pub whole : (o : Option Planned) (t : Step) → option_map (λ (x : Planned). x.step) o ≡ Some t → (p : Planned) × (o ≡ Some p) × (p.step ≡ t)
whole None t e = absurd cc
whole (Some p) t e = (p, refl, (let f : p.step ≡ t = cc in f))

suits_of : (f : Step → Bool) (plan : List Planned) (n : ℕ) (t : Step) (w : (p : Planned) × (slice_get plan n ≡ Some p) × (p.step ≡ t)) → list_all (λ x. f x.step) plan ≡ true → f t ≡ true
suits_of f plan n t w h = rw (← w.2) (all-at (λ x. f x.step) plan n w.0 h w.1)

pub step-passes : (f : Step → Bool) (plan : List Planned) (n : ℕ) (t : Step) → option_map (λ (x : Planned). x.step) (slice_get plan n) ≡ Some t → list_all (λ x. f x.step) plan ≡ true → f t ≡ true
step-passes f plan n t e h = suits_of f plan n t (whole (slice_get plan n) t e) h

put_last : (b : Bool) (n : ℕ) (xs : List ℕ) → is_last n xs ≡ false → with_last_if b n xs ≡ cond b (xs ++ n ∷ []) xs
put_last true n xs e = rw e refl
put_last false n xs e = refl

-- the copies of a side of a node among one step more
pub copies-next : (ring : RingValue) (plan : List Planned) (n : ℕ) (serve : Slot → Serving) (y : NodeSide) (t : Step) (old new : List ℕ) → option_map (λ (p : Planned). p.step) (slice_get plan n) ≡ Some t → ((s : Slot) → serve s ≡ serving_of (stage_before ring plan s n)) → old ≡ numbers_from (takes_part ring plan y) 0 (take n plan) → new ≡ with_last_if (is_party ring serve t y) n old → new ≡ numbers_from (takes_part ring plan y) 0 (take (n + 1) plan)
copies-next ring plan n serve y t old new e same before is =
    let w = whole (slice_get plan n) t e in
    let front : List ℕ = numbers_from (takes_part ring plan y) 0 (take n plan) in
    let l : n ≡ 0 + length (take n plan) = (let r = take-length plan n w.0 w.1 in omega arith) in
    let fresh : is_last n front ≡ false = not_last n 0 front (numbers-between (takes_part ring plan y) 0 n (take n plan) l) in
    let who : is_party ring serve t y ≡ takes_part ring plan y n w.0 = ap (λ (u : Step). is_party ring serve u y) (sym w.2) ∙ sym (takes_part-party ring plan n serve y w.0 w.1 same) in
    is ∙ ap (λ (b : Bool). with_last_if b n old) who ∙ ap (λ (xs : List ℕ). with_last_if (takes_part ring plan y n w.0) n xs) before
    ∙ put_last (takes_part ring plan y n w.0) n front fresh ∙ sym (numbers-take (takes_part ring plan y) plan n w.0 w.1)

-- who serves after one step more
pub present-next : (ring : RingValue) (plan : List Planned) (s : Slot) (n : ℕ) (t : Step) (v w : Serving) → option_map (λ (p : Planned). p.step) (slice_get plan n) ≡ Some t → v ≡ serving_of (stage_before ring plan s n) → w ≡ cond (is_on s t) (after_step v t) v → w ≡ serving_of (stage_before ring plan s (n + 1))
present-next ring plan s n t v w e before is =
    let o = whole (slice_get plan n) t e in
    serving-next ring plan s n o.0 v w o.1 before (is ∙ ap (λ (u : Step). cond (is_on s u) (after_step v u) v) (sym o.2))
