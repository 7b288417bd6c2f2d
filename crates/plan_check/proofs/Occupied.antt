-- Who serves a slot has begun to, and has not left.
use Rattle.std.proofs.Common.{◌≡◌, ◌⊎◌, inl, inr, ◌∙◌, ℕ, zero, suc, ◌+◌, ◌<◌, ◌≤◌, Bool, true, false, not, cond, List, [], ◌∷◌, ◌++◌, length, get_or, take, drop, Option, Some, None, refl, sym, ap, subst, arith, eq-eqb}
use Rattle.std.specs.Prelude.{◌==◌, ◌&&◌, ◌||◌, slice_get, fold, unwrap_or, option_map}
use Rattle.std.specs.List.{AllByRecursion}
use Rattle.std.proofs.lemmas.Option.{slice_get-get_or}
use Rattle.std.proofs.lemmas.List.{take-append-drop, take_more, drop_all, length-take-le}
use Rattle.ring_names.specs.Lists.{has}
use Rattle.ring_names.specs.declared.ids.NodeId.{NodeId}
use Rattle.ring_names.specs.declared.ids.Slot.{Slot}
use Rattle.ring_names.proofs.Logic.{and_not}
use Rattle.ring_table.specs.Value.{RingValue, owner_of}
use Rattle.ring_table.specs.Valid.{IsRing, IsRow}
use Rattle.plan_text.specs.declared.step.Step.{Step}
use Rattle.plan_text.specs.declared.step.Step.TheVariants.{Join, Mirror, Copy, Switch, Drop, Retire}
use Rattle.plan_text.specs.declared.step.Planned.{Planned}
use Rattle.plan_text.specs.Steps.{steps_of, is_on}
use Rattle.plan_stage.specs.declared.stage.Stage.{Stage}
use Rattle.plan_stage.specs.Stage.{opening, stage, after, next}
use Rattle.plan_stage.proofs.Stages.{after-next, stage-more}
use Rattle.plan_stage.proofs.Places.{placed}
use Rattle.plan_stage.specs.Occupancy.{is_node, leaving, first_end, mirror_end}
use Rattle.plan_stage.specs.Each.{step_at}
use Rattle.plan_check.specs.Occupies.{FromStart, FromMirror, Serves}
use Rattle.plan_stage.proofs.Truth.{slot-is}
use Rattle.plan_stage.proofs.Leavings.{some_is}
use Rattle.std.proofs.lemmas.Bool.{or_right}

-- ---- leaving, step by step

-- the test that a step ends the occupancy
abbrev pub ends_at : List Planned → NodeId → Stage → ℕ → Bool
ends_at plan x a s = is_node x a.owner && not (is_node x (after plan a s).owner)

pub leaving-more : (plan : List Planned) (x : NodeId) (a : Stage) (ss ts : List ℕ) → leaving plan x a ss ≡ None → leaving plan x a (ss ++ ts) ≡ leaving plan x (fold (after plan) a ss) ts
leaving-more plan x a [] ts e = refl
leaving-more plan x a (s ∷ ss) ts e = by (ends_at plan x a s) e (leaving-more plan x (after plan a s) ss ts)
  where
    by : (b : Bool) → cond b (Some s) (leaving plan x (after plan a s) ss) ≡ None → (leaving plan x (after plan a s) ss ≡ None → leaving plan x (after plan a s) (ss ++ ts) ≡ leaving plan x (fold (after plan) (after plan a s) ss) ts)
        → cond b (Some s) (leaving plan x (after plan a s) (ss ++ ts)) ≡ leaving plan x (fold (after plan) (after plan a s) ss) ts
    by true h more = absurd cc
    by false h more = more h

pub leaving-in : (plan : List Planned) (x : NodeId) (a : Stage) (ss : List ℕ) (e : ℕ) → leaving plan x a ss ≡ Some e → has e ss ≡ true
leaving-in plan x a [] e h = absurd cc
leaving-in plan x a (s ∷ ss) e h = by (ends_at plan x a s) h (leaving-in plan x (after plan a s) ss e)
  where
    some_same : (m n : ℕ) → Some m ≡ Some n → m ≡ n
    some_same m n q = cc

    by : (b : Bool) → cond b (Some s) (leaving plan x (after plan a s) ss) ≡ Some e → (leaving plan x (after plan a s) ss ≡ Some e → has e ss ≡ true) → ((e == s) || has e ss) ≡ true
    by true q more = rw (eq-eqb e s (sym (some_same s e q))) refl
    by false q more = or_right (e == s) (has e ss) (more q)

-- ---- parts of lists

pub cut : (n k : ℕ) (xs : List ℕ) → n ≤ k → drop n (take k xs) ++ drop k xs ≡ drop n xs
cut zero k xs le = take-append-drop k xs
cut (suc n) zero xs le = absurd (omega arith)
cut (suc n) (suc k) [] le = refl
cut (suc n) (suc k) (x ∷ xs) le = cut n k xs (omega arith)

pub drop_push : (n : ℕ) (xs ys : List ℕ) → n ≤ length xs → drop n (xs ++ ys) ≡ drop n xs ++ ys
drop_push zero xs ys le = refl
drop_push (suc n) [] ys le = absurd (omega arith)
drop_push (suc n) (x ∷ xs) ys le = drop_push n xs ys (omega arith)

pub fold_cut : (plan : List Planned) (a : Stage) (n k : ℕ) (xs : List ℕ) → n ≤ k → fold (after plan) (fold (after plan) a (take n xs)) (drop n (take k xs)) ≡ fold (after plan) a (take k xs)
fold_cut plan a zero k xs le = refl
fold_cut plan a (suc n) zero xs le = absurd (omega arith)
fold_cut plan a (suc n) (suc k) [] le = refl
fold_cut plan a (suc n) (suc k) (x ∷ xs) le = fold_cut plan (after plan a x) n k xs (omega arith)

-- ---- one step more

-- the node is the owner or the mirror in the stage
abbrev pub InStage : NodeId → Stage → Type 0
InStage x a = (x ≡ a.owner) ⊎ (a.mirror ≡ Some x)

pub node_same : (x y : NodeId) → x ≡ y → is_node x y ≡ true
node_same x y e = eq-eqb x.0 y.0 (ap (λ (z : NodeId). z.0) e)

gone : (b c : Bool) → c ≡ true → (b && not c) ≡ false
gone true c e = rw e refl
gone false c e = refl

-- who serves after a step served before and does not leave by the step, or is mirrored by the step
next-serves : (x : NodeId) (a : Stage) (t : Step) → InStage x (next a t) → (InStage x a × ((is_node x a.owner && not (is_node x (next a t).owner)) ≡ false)) ⊎ ((slot : Slot) × (t ≡ Mirror slot x))
next-serves x a (Join y) h = inl (h, and_not (is_node x a.owner))
next-serves x a (Mirror slot y) h = elim h [
  | inl owner ↦ inl (inl owner, and_not (is_node x a.owner))
  | inr mirror ↦ inr (slot, ap (λ (z : NodeId). Mirror slot z) (some_is y x mirror))
]
next-serves x a (Copy slot from) h = inl (h, and_not (is_node x a.owner))
next-serves x a (Switch slot) h = elim h [
  | inl owner ↦ inl (from_mirror a.mirror refl owner, gone (is_node x a.owner) (is_node x (unwrap_or a.mirror a.owner)) (node_same x (unwrap_or a.mirror a.owner) owner))
  | inr mirror ↦ absurd (none_is mirror)
]
  where
    none_is : None ≡ Some x → ⊥
    none_is e = cc

    from_mirror : (o : Option NodeId) → a.mirror ≡ o → x ≡ unwrap_or o a.owner → InStage x a
    from_mirror None e h2 = inl h2
    from_mirror (Some m) e h2 = inr (e ∙ ap (λ (z : NodeId). Some z) (sym h2))
next-serves x a (Drop slot y) h = inl (h, and_not (is_node x a.owner))
next-serves x a (Retire y) h = inl (h, and_not (is_node x a.owner))

after-serves : (plan : List Planned) (x : NodeId) (a : Stage) (n : ℕ) (p : Planned) → slice_get plan n ≡ Some p → InStage x (after plan a n) → (InStage x a × (ends_at plan x a n ≡ false)) ⊎ ((slot : Slot) × (p.step ≡ Mirror slot x))
after-serves plan x a n p e h =
    let is : after plan a n ≡ next a p.step = after-next plan a n p.step (ap (λ (o : Option Planned). option_map (λ (z : Planned). z.step) o) e) in
    elim (next-serves x a p.step (subst (InStage x) is h)) [
      | inl t ↦ inl (t.0, subst (λ (b : Stage). (is_node x a.owner && not (is_node x b.owner)) ≡ false) (sym is) t.1)
      | inr t ↦ inr t
    ]

-- leaving nothing behind the first k steps, and not by the next
leaving-next : (plan : List Planned) (x : NodeId) (a b : Stage) (ss : List ℕ) (n : ℕ) → leaving plan x a ss ≡ None → fold (after plan) a ss ≡ b → ends_at plan x b n ≡ false → leaving plan x a (ss ++ n ∷ []) ≡ None
leaving-next plan x a b ss n none is stay =
    leaving-more plan x a ss (n ∷ []) none ∙ ap (λ (c : Stage). leaving plan x c (n ∷ [])) is ∙ (let one : cond (ends_at plan x b n) (Some n) None ≡ None = rw stay refl in one)

row_at : (P : List NodeId → Type 0) (rows : List (List NodeId)) (i : ℕ) → AllByRecursion P rows → i < length rows → P (get_or rows i [])
row_at P [] i a h = absurd (omega arith)
row_at P (x ∷ xs) zero a h = a.0
row_at P (x ∷ xs) (suc i) a h = row_at P xs i a.1 (omega arith)

first-owner : (ring : RingValue) (slot : Slot) → IsRing ring → slot.partition < ring.q → slot.index < ring.n → (y : NodeId) × (owner_of ring slot ≡ Some y)
first-owner ring slot r p i =
    let here : slice_get ring.owners slot.partition ≡ Some (get_or ring.owners slot.partition []) = slice_get-get_or ring.owners slot.partition [] (omega (arith, r.partitions)) in
    let row = row_at (IsRow ring.n ring.nodes) ring.owners slot.partition r.rows (omega (arith, r.partitions)) in
    let there : slice_get (get_or ring.owners slot.partition []) slot.index ≡ Some (get_or (get_or ring.owners slot.partition []) slot.index (record { 0 = 0 })) = slice_get-get_or (get_or ring.owners slot.partition []) slot.index (record { 0 = 0 }) (omega (arith, row.slots)) in
    (get_or (get_or ring.owners slot.partition []) slot.index (record { 0 = 0 }), rw here there)

pub occupied : (ring : RingValue) (plan : List Planned) (slot : Slot) (x : NodeId) (k : ℕ) → IsRing ring → slot.partition < ring.q → slot.index < ring.n → k ≤ length (steps_of plan slot) → Serves ring plan slot x k
    → FromStart ring plan slot x k ⊎ ((b : ℕ) × FromMirror ring plan slot x k b)
occupied ring plan slot x zero r p i le s = elim s [
  | inl owner ↦ (let o = first-owner ring slot r p i in inl (o.1 ∙ ap (λ (z : NodeId). Some z) (sym (owner ∙ ap (λ (q : Option NodeId). unwrap_or q (record { 0 = 0 })) o.1)), refl))
  | inr mirror ↦ absurd (none_is mirror)
]
  where
    none_is : None ≡ Some x → ⊥
    none_is e = cc
occupied ring plan slot x (suc k) r p i le s =
    let steps = steps_of plan slot in
    let n = get_or steps k 0 in
    let within : k < length steps = omega arith in
    let on = placed plan slot k within in
    let plus : suc k ≡ k + 1 = omega arith in
    let more : stage ring plan slot (suc k) ≡ after plan (stage ring plan slot k) n = ap (stage ring plan slot) plus ∙ stage-more ring plan slot k within in
    let taken : take (suc k) steps ≡ take k steps ++ n ∷ [] = ap (λ (m : ℕ). take m steps) plus ∙ take_more steps k 0 within in
    let long : length (take k steps) ≡ k = length-take-le k steps (omega arith) in
    elim (after-serves plan x (stage ring plan slot k) n on.0 on.1 (subst (InStage x) more s)) [
      | inl t ↦ elim (occupied ring plan slot x k r p i (omega arith) t.0) [
        | inl f ↦ inl (f.0, ap (leaving plan x (opening ring slot)) taken ∙ leaving-next plan x (opening ring slot) (stage ring plan slot k) (take k steps) n f.1 refl t.1)
        | inr f ↦ (
            let b = f.0 in
            let less : suc b ≤ k = omega (arith, f.1.0) in
            let parts : drop (suc b) (take (suc k) steps) ≡ drop (suc b) (take k steps) ++ n ∷ [] = ap (drop (suc b)) taken ∙ drop_push (suc b) (take k steps) (n ∷ []) (omega arith) in
            inr (b, (omega arith, f.1.1, ap (leaving plan x (stage ring plan slot (suc b))) parts ∙ leaving-next plan x (stage ring plan slot (suc b)) (stage ring plan slot k) (drop (suc b) (take k steps)) n f.1.2 (fold_cut plan (opening ring slot) (suc b) k steps less) t.1)))
      ]
      | inr t ↦ (
          let own : slot ≡ t.0 = slot-is slot t.0 (subst (λ (z : Step). is_on slot z ≡ true) t.1 on.2) in
          let at : step_at plan n ≡ Some (Mirror slot x) = ap (λ (o : Option Planned). elim o as (λ _. Option Step) [ Some z ↦ Some z.step | None ↦ None ]) on.1 ∙ ap (λ (z : Step). Some z) (t.1 ∙ ap (λ (u : Slot). Mirror u x) (sym own)) in
          let nothing : drop (suc k) (take (suc k) steps) ≡ [] = drop_all (suc k) (take (suc k) steps) (omega (arith, length-take-le (suc k) steps le)) in
          inr (k, (omega arith, at, ap (leaving plan x (stage ring plan slot (suc k))) nothing)))
    ]

-- so its end, if there is one, is a later step
pub ends_later : (ring : RingValue) (plan : List Planned) (slot : Slot) (x : NodeId) (k e : ℕ) → k ≤ length (steps_of plan slot) → FromStart ring plan slot x k → first_end ring plan slot ≡ Some e → has e (drop k (steps_of plan slot)) ≡ true
ends_later ring plan slot x k e le f is =
    let steps = steps_of plan slot in
    let owner : x ≡ (opening ring slot).owner = sym (ap (λ (q : Option NodeId). unwrap_or q (record { 0 = 0 })) f.0) in
    let split : leaving plan x (opening ring slot) steps ≡ leaving plan x (fold (after plan) (opening ring slot) (take k steps)) (drop k steps) =
    ap (leaving plan x (opening ring slot)) (sym (take-append-drop k steps)) ∙ leaving-more plan x (opening ring slot) (take k steps) (drop k steps) f.1 in
    leaving-in plan x (fold (after plan) (opening ring slot) (take k steps)) (drop k steps) e (sym split ∙ ap (λ (y : NodeId). leaving plan y (opening ring slot) steps) owner ∙ is)

pub mirror_ends_later : (ring : RingValue) (plan : List Planned) (slot : Slot) (x : NodeId) (k b e : ℕ) → k ≤ length (steps_of plan slot) → FromMirror ring plan slot x k b → mirror_end ring plan slot b x ≡ Some e → has e (drop k (steps_of plan slot)) ≡ true
mirror_ends_later ring plan slot x k b e le f is =
    let steps = steps_of plan slot in
    let a = stage ring plan slot (suc b) in
    let split : leaving plan x a (drop (suc b) steps) ≡ leaving plan x (fold (after plan) a (drop (suc b) (take k steps))) (drop k steps) =
    ap (leaving plan x a) (sym (cut (suc b) k steps (omega (arith, f.0)))) ∙ leaving-more plan x a (drop (suc b) (take k steps)) (drop k steps) f.2 in
    leaving-in plan x (fold (after plan) a (drop (suc b) (take k steps))) (drop k steps) e (sym split ∙ is)
