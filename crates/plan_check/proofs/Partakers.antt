-- Who takes part in an open copy now is one of the copy's nodes.
use Rattle.std.proofs.Common.{◌≡◌, ◌⊎◌, inl, inr, ◌∙◌, ℕ, zero, suc, ◌+◌, ◌<◌, ◌≤◌, Bool, true, false, cond, List, [], ◌∷◌, length, get_or, map, refl, sym, ap, subst, arith, add-one, ltb-true, ltb-false, lt-ltb, eqb-true, eq-eqb}
use Rattle.std.specs.Prelude.{◌==◌, nat_lt, Option, Some, None, slice_get, option_map, option_and_then}
use Rattle.std.specs.List.{list_any}
use Rattle.std.proofs.lemmas.Bool.{or_right, cases_lt, or_cases}
use Rattle.ring_names.specs.Lists.{has}
use Rattle.ring_names.specs.declared.ids.NodeId.{NodeId}
use Rattle.ring_names.specs.declared.ids.Slot.{Slot}
use Rattle.ring_table.specs.declared.allowance.Side.{Side}
use Rattle.ring_table.specs.declared.allowance.Side.TheVariants.{Both, Take, Give}
use Rattle.ring_table.specs.Value.{RingValue}
use Rattle.plan_text.specs.declared.step.Source.{Source}
use Rattle.plan_text.specs.declared.step.Source.TheVariants.{Owner, Slots}
use Rattle.plan_text.specs.declared.step.Step.{Step}
use Rattle.plan_text.specs.declared.step.Step.TheVariants.{Join, Mirror, Copy, Switch, Drop, Retire}
use Rattle.plan_text.specs.declared.step.Planned.{Planned}
use Rattle.plan_text.specs.Steps.{steps_of, is_on, copy_of}
use Rattle.plan_order.specs.Before.{Before}
use Rattle.plan_order.proofs.Reaching.{less, join}
use Rattle.plan_stage.specs.declared.stage.Stage.{Stage}
use Rattle.plan_stage.specs.Stage.{stage, after, next, is_among, with_node}
use Rattle.plan_stage.specs.Parties.{count_below, stage_before, source_slots, owners_before, sources_of, target_of, with_target, on_side}
use Rattle.plan_stage.proofs.Stages.{after-next, stage-more}
use Rattle.plan_runs.specs.World.{World, stage_now, count, copy_at}
use Rattle.plan_stage.specs.Each.{step_at, sibling}
use Rattle.plan_check.specs.Safe.{mirrors_now, gives_now, takes_part_now}
use Rattle.plan_check.specs.Sound.{AreSettled, is_party_of}
use Rattle.plan_runs.proofs.Prefix.{found, Rises, IsPrefix, prefix, count_below_is, place}
use Rattle.plan_check.proofs.Mirrored.{Known, before_done, before_ready, rises, down}
use Rattle.plan_runs.specs.Reached.{Ready, Closed}
use Rattle.plan_stage.proofs.Places.{placed}
use Rattle.plan_stage.proofs.Truth.{slot-is, slot-same}
use Rattle.plan_stage.proofs.Holders.{has-from}

-- ---- steps of smaller number

below_prefix : (n : ℕ) (ss : List ℕ) → Rises ss → IsPrefix (λ s. nat_lt s n) ss (count_below n ss)
below_prefix n ss r = subst (λ (k : ℕ). IsPrefix (λ s. nat_lt s n) ss k) (sym (count_below_is n ss))
    (prefix (λ s. nat_lt s n) ss (λ k m e. (let a = ltb-true (get_or ss (suc k) 0) n e in let b = r k m in lt-ltb (get_or ss k 0) n (omega arith))))

-- a slot's steps come one before the other
pub in_turn : (ring : RingValue) (plan : List Planned) → Known ring plan → (slot : Slot) (i j : ℕ) → i < j → j < length (steps_of plan slot) → Before plan (get_or (steps_of plan slot) i 0) (get_or (steps_of plan slot) j 0)
in_turn ring plan k slot i zero l m = absurd (omega arith)
in_turn ring plan k slot i (suc j) l m = elim (cases_lt i j) [
  | inl h ↦ join plan _ _ _ (in_turn ring plan k slot i j h (omega arith)) (k.in_turn.in_order slot j m)
  | inr h ↦ (let e : i ≡ j = omega arith in rw e (k.in_turn.in_order slot j m))
]

-- the finished steps of a slot, where its step n is ready and not finished, are those in front of n
pub own_count : (ring : RingValue) (plan : List Planned) → Known ring plan → (D : ℕ → Bool) (n : ℕ) (slot : Slot) → Closed plan D → Ready plan D n → D n ≡ false → has n (steps_of plan slot) ≡ true → count D (steps_of plan slot) ≡ count_below n (steps_of plan slot)
own_count ring plan k D n slot c y off h = done ∙ sym front
  where
    ss : List ℕ
    ss = steps_of plan slot

    j : ℕ
    j = (found n ss h).0

    in_it : j < length ss
    in_it = (found n ss h).1

    at : get_or ss j 0 ≡ n
    at = (found n ss h).2

    front : count_below n ss ≡ j
    front = ap (λ (m : ℕ). count_below m ss) (sym at) ∙ place ss j (rises ring plan k slot) in_it

    p : IsPrefix D ss (count D ss)
    p = prefix D ss (down ring plan k D c slot)

    done : count D ss ≡ j
    done = elim (cases_lt j (count D ss)) [
      | inl l ↦ absurd (let e : D n ≡ true = ap D (sym at) ∙ p.below j l in cc)
      | inr l ↦ elim (cases_lt (count D ss) j) [
        | inl m ↦ absurd (
            let b : Before plan (get_or ss (count D ss) 0) n = subst (λ (z : ℕ). Before plan (get_or ss (count D ss) 0) z) at (in_turn ring plan k slot (count D ss) j m in_it) in
            let e = before_ready plan D _ n c y b in
            let f = p.above (count D ss) (omega arith) (let z = in_it in omega arith) in
            cc)
        | inr m ↦ omega arith
      ]
    ]

-- ---- the owner stays if no step is a switch

after_owner : (a : Stage) (t : Step) (slot : Slot) → is_on slot t ≡ true → (t ≡ Switch slot → ⊥) → (next a t).owner ≡ a.owner
after_owner a (Join y) slot on never = refl
after_owner a (Mirror s y) slot on never = refl
after_owner a (Copy s from) slot on never = refl
after_owner a (Switch s) slot on never = absurd (never (ap (λ (z : Slot). Switch z) (sym (slot-is slot s on))))
after_owner a (Drop s y) slot on never = refl
after_owner a (Retire y) slot on never = refl

-- none of the steps from place a up to place b is a switch
abbrev pub NoSwitch : List Planned → Slot → ℕ → ℕ → Type 0
NoSwitch plan slot a b = (i : ℕ) → a ≤ i → i < b → step_at plan (get_or (steps_of plan slot) i 0) ≡ Some (Switch slot) → ⊥

owner_kept : (ring : RingValue) (plan : List Planned) (slot : Slot) (a b : ℕ) → a ≤ b → b ≤ length (steps_of plan slot) → NoSwitch plan slot a b → (stage ring plan slot b).owner ≡ (stage ring plan slot a).owner
owner_kept ring plan slot a zero l m never = (let e : zero ≡ a = omega arith in ap (λ (z : ℕ). (stage ring plan slot z).owner) e)
owner_kept ring plan slot a (suc b) l m never = elim (cases_lt b a) [
  | inl h ↦ (let e : suc b ≡ a = omega arith in ap (λ (z : ℕ). (stage ring plan slot z).owner) e)
  | inr h ↦ (
      let n = get_or (steps_of plan slot) b 0 in
      let on = placed plan slot b (omega arith) in
      let more : stage ring plan slot (suc b) ≡ after plan (stage ring plan slot b) n = ap (stage ring plan slot) (sym (add-one b)) ∙ stage-more ring plan slot b (omega arith) in
      let step : step_at plan n ≡ Some on.0.step = ap (λ (o : Option Planned). elim o as (λ _. Option Step) [ Some z ↦ Some z.step | None ↦ None ]) on.1 in
      let is : after plan (stage ring plan slot b) n ≡ next (stage ring plan slot b) on.0.step = after-next plan (stage ring plan slot b) n on.0.step (ap (λ (o : Option Planned). option_map (λ (z : Planned). z.step) o) on.1) in
      let kept : (next (stage ring plan slot b) on.0.step).owner ≡ (stage ring plan slot b).owner = after_owner (stage ring plan slot b) on.0.step slot on.2 (λ e. never b h (omega arith) (step ∙ ap (λ (z : Step). Some z) e)) in
      ap (λ (z : Stage). z.owner) (more ∙ is) ∙ kept ∙ owner_kept ring plan slot a b h (omega arith) (λ i f g. never i f (omega arith)))
]

-- each switch of the slot comes before step n or after it
abbrev pub Settled : List Planned → ℕ → Slot → Type 0
Settled plan n slot = (m : ℕ) → step_at plan m ≡ Some (Switch slot) → Before plan m n ⊎ Before plan n m

-- so the owner now is the one before step n, where n is ready and not finished
pub owner_same : (ring : RingValue) (plan : List Planned) → Known ring plan → (D : ℕ → Bool) (n : ℕ) (slot : Slot) → Closed plan D → Ready plan D n → D n ≡ false → Settled plan n slot
    → (stage ring plan slot (count D (steps_of plan slot))).owner ≡ (stage_before ring plan slot n).owner
owner_same ring plan k D n slot c y off settled = elim (cases_lt (count D ss) (count_below n ss)) [
  | inl h ↦ sym (owner_kept ring plan slot (count D ss) (count_below n ss) (omega arith) q.within ahead)
  | inr h ↦ owner_kept ring plan slot (count_below n ss) (count D ss) h p.within behind
]
  where
    ss : List ℕ
    ss = steps_of plan slot

    p : IsPrefix D ss (count D ss)
    p = prefix D ss (down ring plan k D c slot)

    q : IsPrefix (λ s. nat_lt s n) ss (count_below n ss)
    q = below_prefix n ss (rises ring plan k slot)

    -- steps in front of n that are not finished
    ahead : NoSwitch plan slot (count D ss) (count_below n ss)
    ahead i l m at = elim (settled (get_or ss i 0) at) [
      | inl b ↦ (let e = before_ready plan D (get_or ss i 0) n c y b in let f = p.above i l (let z = q.within in omega arith) in absurd cc)
      | inr b ↦ (let e = less plan n (get_or ss i 0) k.is_plan b in let f = ltb-true (get_or ss i 0) n (q.below i m) in absurd (omega arith))
    ]

    -- finished steps not in front of n
    behind : NoSwitch plan slot (count_below n ss) (count D ss)
    behind i l m at = elim (settled (get_or ss i 0) at) [
      | inl b ↦ (let e = less plan (get_or ss i 0) n k.is_plan b in let f = ltb-false (get_or ss i 0) n (q.above i l (let z = p.within in omega arith)) in absurd (omega arith))
      | inr b ↦ (let e = before_done plan D n (get_or ss i 0) c b (p.below i m) in absurd cc)
    ]

-- ---- nodes in a list

by_equal : (x y : NodeId) (ys : List NodeId) → (x.0 == y.0) ≡ true → is_among x (y ∷ ys) ≡ true
by_equal x y ys e = rw e refl

node_in : (x : NodeId) (ys : List NodeId) → is_among x (with_node x ys) ≡ true
node_in x [] = by_equal x x [] (eq-eqb x.0 x.0 refl)
node_in x (y ∷ ys) = by (nat_lt x.0 y.0) (x.0 == y.0) refl (node_in x ys)
  where
    by : (a b : Bool) → (x.0 == y.0) ≡ b → is_among x (with_node x ys) ≡ true → is_among x (cond a (x ∷ y ∷ ys) (cond b (y ∷ ys) (y ∷ with_node x ys))) ≡ true
    by true b e r = by_equal x x (y ∷ ys) (eq-eqb x.0 x.0 refl)
    by false true e r = by_equal x y ys e
    by false false e r = or_right (x.0 == y.0) (is_among x (with_node x ys)) r

still_in : (z x : NodeId) (ys : List NodeId) → is_among z ys ≡ true → is_among z (with_node x ys) ≡ true
still_in z x [] h = absurd cc
still_in z x (y ∷ ys) h = by (nat_lt x.0 y.0) (x.0 == y.0) (still_in z x ys)
  where
    by : (a b : Bool) → (is_among z ys ≡ true → is_among z (with_node x ys) ≡ true) → is_among z (cond a (x ∷ y ∷ ys) (cond b (y ∷ ys) (y ∷ with_node x ys))) ≡ true
    by true b r = or_right (z.0 == x.0) (is_among z (y ∷ ys)) h
    by false true r = h
    by false false r = elim (or_cases (z.0 == y.0) (is_among z ys) h) [
      | inl f ↦ by_equal z y (with_node x ys) f
      | inr f ↦ or_right (z.0 == y.0) (is_among z (with_node x ys)) (r f)
    ]

-- ---- the nodes of a copy

-- the owners now are those before step n
abbrev pub SameOwners : RingValue → List Planned → World → ℕ → List Slot → Type 0
SameOwners ring plan w n [] = Unit {0}
SameOwners ring plan w n (t ∷ ts) = ((stage_now ring plan w t).owner ≡ (stage_before ring plan t n).owner) × SameOwners ring plan w n ts

owner_in : (ring : RingValue) (plan : List Planned) (w : World) (n x : ℕ) (ts : List Slot) → SameOwners ring plan w n ts → list_any (λ t. x == (stage_now ring plan w t).owner.0) ts ≡ true
    → is_among (record { 0 = x }) (owners_before ring plan n ts) ≡ true
owner_in ring plan w n x [] s h = absurd cc
owner_in ring plan w n x (t ∷ ts) s h = elim (or_cases (x == (stage_now ring plan w t).owner.0) (list_any (λ t. x == (stage_now ring plan w t).owner.0) ts) h) [
  | inl f ↦ (
      let e : x ≡ (stage_before ring plan t n).owner.0 = eqb-true x (stage_now ring plan w t).owner.0 f ∙ ap (λ (y : NodeId). y.0) s.0 in
      subst (λ (z : ℕ). is_among (record { 0 = z }) (with_node (stage_before ring plan t n).owner (owners_before ring plan n ts)) ≡ true) (sym e) (node_in (stage_before ring plan t n).owner (owners_before ring plan n ts)))
  | inr f ↦ still_in (record { 0 = x }) (stage_before ring plan t n).owner (owners_before ring plan n ts) (owner_in ring plan w n x ts s.1 f)
]

listed_same : (ring : RingValue) (plan : List Planned) (w : World) (n : ℕ) (slot : Slot) (from : List ℕ) → ((j : ℕ) → has j from ≡ true → (stage_now ring plan w (sibling slot j)).owner ≡ (stage_before ring plan (sibling slot j) n).owner)
    → SameOwners ring plan w n (map (λ i. record { partition = slot.partition; index = i }) from)
listed_same ring plan w n slot [] h = tt
listed_same ring plan w n slot (i ∷ from) h = (h i (rw (eq-eqb i i refl) refl), listed_same ring plan w n slot from (λ j e. h j (or_right (j == i) (has j from) e)))

sources_same : (ring : RingValue) (plan : List Planned) → Known ring plan → AreSettled plan (Before plan) → (w : World) (n : ℕ) (slot : Slot) (source : Source) → Closed plan w.done → Ready plan w.done n → w.done n ≡ false → step_at plan n ≡ Some (Copy slot source)
    → stage_now ring plan w slot ≡ stage_before ring plan slot n → SameOwners ring plan w n (source_slots slot source)
sources_same ring plan k settled w n slot Owner c y off at own = (ap (λ (a : Stage). a.owner) own, tt)
sources_same ring plan k settled w n slot (Slots from) c y off at own = listed_same ring plan w n slot from (λ j e. owner_same ring plan k w.done n (sibling slot j) c y off (λ m s. settled n m j slot from at e s))

its_parties : (ring : RingValue) (plan : List Planned) (side : Side) (n : ℕ) (t : Step) (o : Option Planned) → (elim o as (λ _. Option Step) [ Some x ↦ Some x.step | None ↦ None ]) ≡ Some t
    → (elim o as (λ _. List NodeId) [ Some x ↦ on_side side (target_of ring plan n x.step) (sources_of ring plan n x.step) | None ↦ [] ]) ≡ on_side side (target_of ring plan n t) (sources_of ring plan n t)
its_parties ring plan side n t None e = absurd cc
its_parties ring plan side n t (Some x) e = (let f : x.step ≡ t = cc in ap (λ (z : Step). on_side side (target_of ring plan n z) (sources_of ring plan n z)) f)

source_in : (z : NodeId) (o : Option NodeId) (ys : List NodeId) → is_among z ys ≡ true → is_among z (with_target o ys) ≡ true
source_in z None ys h = h
source_in z (Some y) ys h = still_in z y ys h

-- a copy that is ready and not finished: its mirror now, and its owners now
module _ (ring : RingValue) (plan : List Planned) (k : Known ring plan) (settled : AreSettled plan (Before plan)) (w : World) (n x : ℕ) (slot : Slot) (source : Source) (c : Closed plan w.done) (y : Ready plan w.done n) (off : w.done n ≡ false) (at : step_at plan n ≡ Some (Copy slot source)) where
  own : stage_now ring plan w slot ≡ stage_before ring plan slot n
  own =
      let z : 0 + n ≡ n = omega arith in
      let on : has n (steps_of plan slot) ≡ true = subst (λ (m : ℕ). has m (steps_of plan slot) ≡ true) z (has-from 0 n plan slot (Copy slot source) at (slot-same slot)) in
      ap (stage ring plan slot) (own_count ring plan k w.done n slot c y off on)

  abbrev owners : List NodeId
  owners = owners_before ring plan n (source_slots slot source)

  abbrev mirror : Option NodeId
  mirror = (stage_before ring plan slot n).mirror

  receives : (others : List NodeId) → mirrors_now ring plan w x slot source ≡ true → is_among (record { 0 = x }) (with_target mirror others) ≡ true
  receives others h = by (stage_now ring plan w slot).mirror refl h
    where
      by : (m : Option NodeId) → (stage_now ring plan w slot).mirror ≡ m → (elim m [ Some y ↦ x == y.0 | None ↦ false ]) ≡ true → is_among (record { 0 = x }) (with_target mirror others) ≡ true
      by None e h = absurd cc
      by (Some y) e h =
          let target : mirror ≡ Some y = ap (λ (a : Stage). a.mirror) (sym own) ∙ e in
          let i : y.0 ≡ x = sym (eqb-true x y.0 h) in
          rw target (subst (λ (v : ℕ). is_among (record { 0 = v }) (with_node y others) ≡ true) i (node_in y others))

  is_read : gives_now ring plan w x slot source ≡ true → is_among (record { 0 = x }) owners ≡ true
  is_read h = owner_in ring plan w n x (source_slots slot source) (sources_same ring plan k settled w n slot source c y off at own) h

  copy_party : (side : Side) → takes_part_now ring plan w x side slot source ≡ true → is_among (record { 0 = x }) (on_side side mirror owners) ≡ true
  copy_party Both part = elim (or_cases (mirrors_now ring plan w x slot source) (gives_now ring plan w x slot source) part) [
    | inl h ↦ receives owners h
    | inr h ↦ source_in (record { 0 = x }) mirror owners (is_read h)
  ]
  copy_party Take part = receives [] part
  copy_party Give part = is_read part

-- the copy that a step is
pub copy_is : (o : Option Step) (slot : Slot) (source : Source) → option_and_then copy_of o ≡ Some (slot, source) → o ≡ Some (Copy slot source)
copy_is None slot source e = absurd cc
copy_is (Some (Join x)) slot source e = absurd cc
copy_is (Some (Mirror s x)) slot source e = absurd cc
copy_is (Some (Copy s from)) slot source e =
    let p : (s, from) ≡ (slot, source) = cc in
    ap (λ (k : Slot × Source). Some (Copy k.0 k.1)) p
copy_is (Some (Switch s)) slot source e = absurd cc
copy_is (Some (Drop s x)) slot source e = absurd cc
copy_is (Some (Retire x)) slot source e = absurd cc

pub party : (ring : RingValue) (plan : List Planned) → Known ring plan → AreSettled plan (Before plan) → (w : World) (n x : ℕ) (side : Side) → Closed plan w.done → Ready plan w.done n → w.done n ≡ false
    → (elim (copy_at plan n) [ Some k ↦ takes_part_now ring plan w x side k.0 k.1 | None ↦ false ]) ≡ true → is_party_of ring plan x side n ≡ true
party ring plan k settled w n x side c y off h = by (copy_at plan n) refl h
  where
    by : (o : Option (Slot × Source)) → copy_at plan n ≡ o → (elim o [ Some k ↦ takes_part_now ring plan w x side k.0 k.1 | None ↦ false ]) ≡ true → is_party_of ring plan x side n ≡ true
    by None e g = absurd cc
    by (Some d) e g =
        let at : step_at plan n ≡ Some (Copy d.0 d.1) = copy_is (step_at plan n) d.0 d.1 e in
        rw (its_parties ring plan side n (Copy d.0 d.1) (slice_get plan n) at) (copy_party ring plan k settled w n x d.0 d.1 c y off at side g)
