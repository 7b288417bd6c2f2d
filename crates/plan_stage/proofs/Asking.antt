-- What is asked of a node's holdings is what is asked of the steps that begin them.
use Rattle.std.proofs.Common.{◌≡◌, ℕ, zero, suc, ◌+◌, ◌<◌, ◌≤◌, Bool, true, false, not, cond, List, [], ◌∷◌, length, get_or, drop, Option, Some, None, refl, sym, ap, subst, ◌∙◌, arith, add-one}
use Rattle.std.specs.Prelude.{◌&&◌, ◌||◌, nat_lt, reverse, is_some, slice_get}
use Rattle.std.specs.List.{list_all}
use Rattle.std.proofs.lemmas.List.{drop_more, drop_all, reverse-reverse}
use Rattle.std.proofs.lemmas.List.Folds.{list_all-append}
use Rattle.ring_names.specs.declared.ids.NodeId.{NodeId}
use Rattle.ring_names.specs.declared.ids.Slot.{Slot}
use Rattle.ring_names.proofs.Logic.{and_false, and_true}
use Rattle.ring_table.specs.Value.{RingValue}
use Rattle.plan_text.specs.declared.step.Step.{Step}
use Rattle.plan_text.specs.declared.step.Step.TheVariants.{Join, Mirror, Copy, Switch, Drop, Retire}
use Rattle.plan_text.specs.declared.step.Planned.{Planned}
use Rattle.plan_text.specs.Steps.{steps_of, is_on, switch_of}
use Rattle.plan_stage.specs.declared.holding.Holding.{Holding}
use Rattle.plan_stage.specs.declared.holding.Holdings.{Holdings}
use Rattle.plan_stage.specs.Stage.{opening, stage, after}
use Rattle.plan_stage.specs.Occupancy.{leaving, dropping, mirror_end, mirror_drop, first_drop}
use Rattle.plan_stage.specs.Each.{step_at, each_step, each_below, is_mirror_of, is_switch_of, owns_first, place_in}
use Rattle.plan_stage.specs.Partition.{Test, ends_before, has_left_slot, has_dropped_slot}
use Rattle.plan_stage.specs.Holdings.{holdings_from, first_holding, holdings}
use Rattle.plan_stage.specs.Looking.Held.{held_at, AreHeld}
use Rattle.plan_stage.specs.Looking.Asked.{switches, is_settling, begins_before, is_left_before, has_left_at, is_dropped_before, has_dropped_at}
use Rattle.plan_stage.proofs.Stages.{stage-more}
use Rattle.plan_stage.proofs.Slots.{place, own_steps}
use Rattle.plan_stage.proofs.Rising.{InFront, holdings-rise}
use Rattle.plan_stage.proofs.Kept.{all-reverse, left-kept, dropped-kept}

-- ---- numbers below n

pub below-more : (f : ℕ → Bool) (n : ℕ) → each_below n f ≡ true → f n ≡ true → each_below (n + 1) f ≡ true
below-more f n h here = rw (add-one, h, here) refl

pub below-fails : (f : ℕ → Bool) (k m : ℕ) → f k ≡ false → each_below (m + suc k) f ≡ false
below-fails f k zero h = (let z : 0 + suc k ≡ suc k = omega arith in rw (z, h) (and_false (each_below k f)))
below-fails f k (suc m) h = (let s : suc m + suc k ≡ suc (m + suc k) = omega arith in rw (s, below-fails f k m h) refl)

-- ---- the steps that begin holdings

-- the holding that step b begins
abbrev held_from : RingValue → List Planned → Slot → NodeId → ℕ → Holding
held_from ring plan slot x b = record { begin = Some b; end = mirror_end ring plan slot (place_in plan slot b) x; drop = mirror_drop plan slot (place_in plan slot b) x }

abbrev asked : RingValue → List Planned → Slot → NodeId → (Holding → Bool) → ℕ → Bool
asked ring plan slot x f b = elim (step_at plan b) [ Some s ↦ not (is_mirror_of slot x s) || f (held_from ring plan slot x b) | None ↦ true ]

one-more : (f : Holding → Bool) (slot : Slot) (x : NodeId) (o : Option Step) (h k : Holding) (hs : List Holding) (more : Bool) → f h ≡ f k → list_all f hs ≡ more
    → list_all f (cond (elim o [ Some s ↦ is_mirror_of slot x s | None ↦ false ]) (h ∷ hs) hs) ≡ ((elim o [ Some s ↦ not (is_mirror_of slot x s) || f k | None ↦ true ]) && more)
one-more f slot x None h k hs more e r = r
one-more f slot x (Some s) h k hs more e r = by (is_mirror_of slot x s)
  where
    by : (b : Bool) → list_all f (cond b (h ∷ hs) hs) ≡ ((not b || f k) && more)
    by true = rw (e, r) refl
    by false = r

begun : (ring : RingValue) (plan : List Planned) (slot : Slot) (x : NodeId) (f : Holding → Bool) (m k : ℕ) → m + k ≡ length (steps_of plan slot)
    → list_all f (holdings_from plan slot x (stage ring plan slot k) (drop k (steps_of plan slot))) ≡ list_all (asked ring plan slot x f) (drop k (steps_of plan slot))
begun ring plan slot x f zero k e =
    let l : length (steps_of plan slot) ≤ k = omega arith in
    rw (drop_all k (steps_of plan slot) l) refl
begun ring plan slot x f (suc m) k e =
    let ss = steps_of plan slot in
    let l : k < length ss = omega arith in
    let b = get_or ss k 0 in
    let a : after plan (stage ring plan slot k) b ≡ stage ring plan slot (k + 1) = sym (stage-more ring plan slot k l) in
    let p : place_in plan slot b ≡ k = place plan slot k l in
    let h : Holding = record { begin = Some b; end = leaving plan x (stage ring plan slot (k + 1)) (drop (k + 1) ss); drop = dropping plan x slot (drop (k + 1) ss) } in
    let same : f h ≡ f (held_from ring plan slot x b) = rw (p, add-one) refl in
    rw (drop_more ss k 0 l, a) (one-more f slot x (step_at plan b) h (held_from ring plan slot x b) (holdings_from plan slot x (stage ring plan slot (k + 1)) (drop (k + 1) ss)) (list_all (asked ring plan slot x f) (drop (k + 1) ss)) same
    (begun ring plan slot x f m (k + 1) (omega (arith, e))))

-- ---- all of a node's holdings of a slot

first-part : (b : Bool) (f : Holding → Bool) (h : Holding) → list_all f (cond b (h ∷ []) []) ≡ (not b || f h)
first-part true f h = and_true (f h)
first-part false f h = refl

asked-all : (ring : RingValue) (plan : List Planned) (slot : Slot) (x : NodeId) (f : Holding → Bool) → list_all f (holdings ring plan slot x) ≡ ((not (owns_first ring slot x) || f (first_holding ring plan slot)) && list_all (asked ring plan slot x f) (steps_of plan slot))
asked-all ring plan slot x f =
    let ss = steps_of plan slot in
    let first = cond (owns_first ring slot x) (first_holding ring plan slot ∷ []) [] in
    let z : length ss + 0 ≡ length ss = omega arith in
    list_all-append f first (holdings_from plan slot x (opening ring slot) ss)
    ∙ ap (λ (b : Bool). b && list_all f (holdings_from plan slot x (opening ring slot) ss)) (first-part (owns_first ring slot x) f (first_holding ring plan slot))
    ∙ ap (λ (b : Bool). (not (owns_first ring slot x) || f (first_holding ring plan slot)) && b) (begun ring plan slot x f (length ss) 0 z)

asked-at : (ring : RingValue) (plan : List Planned) (slot : Slot) (x : NodeId) (f : Holding → Bool) (b : ℕ) (s : Step) → step_at plan b ≡ Some s → (not (is_mirror_of slot x s) || f (held_from ring plan slot x b)) ≡ asked ring plan slot x f b
asked-at ring plan slot x f b s at = sym (ap (λ (o : Option Step). elim o [ Some t ↦ not (is_mirror_of slot x t) || f (held_from ring plan slot x b) | None ↦ true ]) at)

-- a step of another slot does not mirror this one
other-mirror : (slot : Slot) (x : NodeId) (s : Step) → is_on slot s ≡ false → is_mirror_of slot x s ≡ false
other-mirror slot x (Join y) e = refl
other-mirror slot x (Mirror t y) e = rw e refl
other-mirror slot x (Copy t from) e = refl
other-mirror slot x (Switch t) e = refl
other-mirror slot x (Drop t y) e = refl
other-mirror slot x (Retire y) e = refl

two-tests : (a b c : Bool) → (not (a && b) || c) ≡ (not b || (not a || c))
two-tests true true c = refl
two-tests true false c = refl
two-tests false true c = refl
two-tests false false c = refl

no-mirror : (a b c : Bool) → b ≡ false → (not (a && b) || c) ≡ true
no-mirror a b c e = rw (e, and_false a) refl

pub left-is : (ring : RingValue) (plan : List Planned) (O : Test) (t p i : ℕ) (x : NodeId) (h : Holdings) → AreHeld ring plan p h → i < ring.n → has_left_at O t h i x ≡ has_left_slot ring plan O t (record { partition = p; index = i }) x
left-is ring plan O t p i x h held l =
    let slot : Slot = record { partition = p; index = i } in
    let f = is_left_before O t in
    let steps = own_steps plan slot (λ b s. not (nat_lt b t && is_mirror_of slot x s) || ends_before O (mirror_end ring plan slot (place_in plan slot b) x) t) (asked ring plan slot x f)
    (λ b s off. no-mirror (nat_lt b t) (is_mirror_of slot x s) (ends_before O (mirror_end ring plan slot (place_in plan slot b) x) t) (other-mirror slot x s off))
    (λ b s at on. two-tests (nat_lt b t) (is_mirror_of slot x s) (ends_before O (mirror_end ring plan slot (place_in plan slot b) x) t) ∙ asked-at ring plan slot x f b s at) in
    let turned : reverse (held_at h i x) ≡ holdings ring plan slot x = ap (λ (hs : List Holding). reverse hs) (held i l x) ∙ reverse-reverse (holdings ring plan slot x) in
    left-kept O t x (slice_get h.slots.items i) (subst (InFront (begins_before t)) (sym turned) (holdings-rise ring plan slot x t))
    ∙ ap (list_all f) turned ∙ asked-all ring plan slot x f ∙ ap (λ (b : Bool). (not (owns_first ring slot x) || f (first_holding ring plan slot)) && b) (sym steps)

pub dropped-is : (ring : RingValue) (plan : List Planned) (O : Test) (t p i : ℕ) (x : NodeId) (h : Holdings) → AreHeld ring plan p h → i < ring.n → has_dropped_at O t h i x ≡ has_dropped_slot ring plan O t (record { partition = p; index = i }) x
dropped-is ring plan O t p i x h held l =
    let slot : Slot = record { partition = p; index = i } in
    let f = is_dropped_before O t in
    let steps = own_steps plan slot (λ b s. not (is_mirror_of slot x s) || ends_before O (mirror_drop plan slot (place_in plan slot b) x) t) (asked ring plan slot x f)
    (λ b s off. no-mirror true (is_mirror_of slot x s) (ends_before O (mirror_drop plan slot (place_in plan slot b) x) t) (other-mirror slot x s off))
    (λ b s at on. asked-at ring plan slot x f b s at) in
    dropped-kept O t x (slice_get h.slots.items i)
    ∙ ap (list_all f) (held i l x) ∙ all-reverse f (holdings ring plan slot x) ∙ asked-all ring plan slot x f ∙ ap (λ (b : Bool). (not (owns_first ring slot x) || ends_before O (first_drop ring plan slot) t) && b) (sym steps)

-- ---- switches of listed slots

other-switch : (slot : Slot) (s : Step) → is_on slot s ≡ false → is_switch_of slot s ≡ false
other-switch slot (Join y) e = refl
other-switch slot (Mirror t y) e = refl
other-switch slot (Copy t from) e = refl
other-switch slot (Switch t) e = e
other-switch slot (Drop t y) e = refl
other-switch slot (Retire y) e = refl

own-switch : (slot : Slot) (s : Step) → is_on slot s ≡ true → is_switch_of slot s ≡ is_some (switch_of s)
own-switch slot (Join y) e = refl
own-switch slot (Mirror t y) e = refl
own-switch slot (Copy t from) e = refl
own-switch slot (Switch t) e = e
own-switch slot (Drop t y) e = refl
own-switch slot (Retire y) e = refl

settling-at : (plan : List Planned) (O : Test) (n m : ℕ) (slot : Slot) (s : Step) → step_at plan m ≡ Some s → is_on slot s ≡ true → (not (is_switch_of slot s) || (O m n || O n m)) ≡ is_settling plan O n m
settling-at plan O n m slot s at on =
    let e : is_switch_of slot s ≡ switches plan m = own-switch slot s on ∙ sym (ap (λ (o : Option Step). elim o [ Some t ↦ is_some (switch_of t) | None ↦ false ]) at) in
    ap (λ (b : Bool). not b || (O m n || O n m)) e

pub settled-is : (plan : List Planned) (O : Test) (n : ℕ) (slot : Slot) → list_all (is_settling plan O n) (steps_of plan slot) ≡ each_step (λ m s. not (is_switch_of slot s) || (O m n || O n m)) 0 plan
settled-is plan O n slot = sym (own_steps plan slot (λ m s. not (is_switch_of slot s) || (O m n || O n m)) (is_settling plan O n)
    (λ m s off. rw (other-switch slot s off) refl)
    (λ m s at on. settling-at plan O n m slot s at on))

pub all-same : (f g : ℕ → Bool) (xs : List ℕ) → ((j : ℕ) → f j ≡ g j) → list_all f xs ≡ list_all g xs
all-same f g [] same = refl
all-same f g (x ∷ xs) same = rw (same x, all-same f g xs same) refl
