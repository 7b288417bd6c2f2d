-- A node that may be mirrored now serves no other slot of the partition.
use Rattle.std.proofs.Common.{◌≡◌, ◌≢◌, inl, inr, ◌∙◌, ℕ, suc, ◌+◌, ◌<◌, ◌≤◌, Bool, true, false, cond, not, List, [], ◌∷◌, length, get_or, drop, refl, sym, ap, subst, arith, eq-eqb}
use Rattle.std.specs.Prelude.{◌&&◌, ◌==◌, Option, Some, None}
use Rattle.std.proofs.lemmas.Bool.{or_right, cases_lt}
use Rattle.ring_names.specs.Lists.{has}
use Rattle.ring_names.specs.declared.ids.NodeId.{NodeId}
use Rattle.ring_names.specs.declared.ids.Slot.{Slot}
use Rattle.ring_table.specs.Value.{RingValue}
use Rattle.ring_table.specs.Valid.{IsRing}
use Rattle.plan_text.specs.declared.step.Step.TheVariants.{Mirror}
use Rattle.plan_text.specs.declared.step.Planned.{Planned}
use Rattle.plan_text.specs.Steps.{steps_of}
use Rattle.plan_text.specs.Valid.{IsPlan}
use Rattle.plan_order.specs.Before.{Before, direct, through}
use Rattle.plan_order.proofs.Reaching.{less}
use Rattle.plan_stage.specs.declared.stage.Stage.{Stage}
use Rattle.plan_stage.specs.Stage.{stage, after}
use Rattle.plan_stage.specs.Occupancy.{is_node, leaving, mirror_end}
use Rattle.plan_runs.specs.World.{count}
use Rattle.plan_stage.specs.Each.{step_at, sibling, place_in}
use Rattle.plan_check.specs.Sound.{AreInTurn, EndsBefore, HaveLeft, ReadEnough, Sound}
use Rattle.plan_runs.specs.Reached.{Ready, Closed}
use Rattle.plan_runs.proofs.Prefix.{found, found_later, Rises, Down, prefix, place}
use Rattle.plan_check.specs.Occupies.{FromStart, FromMirror, Serves}
use Rattle.plan_check.proofs.Occupied.{occupied, ends_later, mirror_ends_later}
use Rattle.plan_stage.proofs.Truth.{slot-same}
use Rattle.plan_stage.proofs.Holders.{has-from}

-- what is known of the ring, and of a plan whose slots act in order
pub record Known (ring : RingValue) (plan : List Planned) : Type 0 where
  pub is_ring : IsRing ring
  pub is_plan : IsPlan plan
  pub in_turn : AreInTurn ring plan (Before plan)

pub known : (ring : RingValue) (plan : List Planned) → IsRing ring → IsPlan plan → Sound ring plan → Known ring plan
known ring plan r p sound = record { is_ring = r; is_plan = p; in_turn = sound.1.in_turn }

-- what is known of a plan by which puts stay held. Its copies read enough, and if nodes may lose their data, no
-- two slots of a partition share a node
pub record Holds (ring : RingValue) (plan : List Planned) : Type 0 where
  pub known : Known ring plan
  pub sources : ReadEnough ring plan
  pub left : 0 < ring.loss → HaveLeft ring plan (Before plan)

pub holds : (ring : RingValue) (plan : List Planned) → IsRing ring → IsPlan plan → Sound ring plan → Holds ring plan
holds ring plan r p sound = record { known = known ring plan r p sound; sources = sound.1.sources; left = λ l. sound.1.left }

pub before_done : (plan : List Planned) (D : ℕ → Bool) (a n : ℕ) → Closed plan D → Before plan a n → D n ≡ true → D a ≡ true
before_done plan D a n c (direct _ _ d) e = c a n e d
before_done plan D a n c (through _ b _ d r) e = c a b (before_done plan D b n c r e) d

pub before_ready : (plan : List Planned) (D : ℕ → Bool) (a n : ℕ) → Closed plan D → Ready plan D n → Before plan a n → D a ≡ true
before_ready plan D a n c y (direct _ _ d) = y a d
before_ready plan D a n c y (through _ b _ d r) = c a b (before_ready plan D b n c y r) d

pub rises : (ring : RingValue) (plan : List Planned) → Known ring plan → (slot : Slot) → Rises (steps_of plan slot)
rises ring plan k slot i l = less plan _ _ k.is_plan (k.in_turn.in_order slot i l)

pub down : (ring : RingValue) (plan : List Planned) → Known ring plan → (D : ℕ → Bool) → Closed plan D → (slot : Slot) → Down D (steps_of plan slot)
down ring plan k D c slot i l e = before_done plan D _ _ c (k.in_turn.in_order slot i l) e

-- ---- ends

pub ends : (plan : List Planned) (o : Option ℕ) (t : ℕ) → EndsBefore (Before plan) o t → (e : ℕ) × (o ≡ Some e) × Before plan e t
ends plan None t h = absurd h
ends plan (Some e) t h = (e, refl, h)

leaving_has : (plan : List Planned) (x : NodeId) (a : Stage) (ss : List ℕ) (e : ℕ) → leaving plan x a ss ≡ Some e → has e ss ≡ true
leaving_has plan x a [] e h = absurd cc
leaving_has plan x a (s ∷ ss) e h = by (is_node x a.owner && not (is_node x (after plan a s).owner)) h (leaving_has plan x (after plan a s) ss e)
  where
    by : (b : Bool) → cond b (Some s) (leaving plan x (after plan a s) ss) ≡ Some e → (leaving plan x (after plan a s) ss ≡ Some e → has e ss ≡ true) → has e (s ∷ ss) ≡ true
    by true g f = rw (eq-eqb e s (let i : e ≡ s = cc in i)) refl
    by false g f = or_right (e == s) (has e ss) (f g)

-- a step behind those that are done is not done
not_done : (D : ℕ → Bool) (ss : List ℕ) (e : ℕ) → Down D ss → has e (drop (count D ss) ss) ≡ true → D e ≡ true → ⊥
not_done D ss e d h f =
    let p = found_later e (count D ss) ss h in
    let g = (prefix D ss d).above p.0 p.1 p.2 in
    let i : D (get_or ss p.0 0) ≡ true = ap D p.3 ∙ f in
    absurd cc

-- and one in front of a step that is done is done
front_done : (D : ℕ → Bool) (ss : List ℕ) (i e : ℕ) → Down D ss → has e (drop (suc i) ss) ≡ true → D e ≡ true → D (get_or ss i 0) ≡ true
front_done D ss i e d h f =
    let p = found_later e (suc i) ss h in
    let q = prefix D ss d in
    let g : D (get_or ss p.0 0) ≡ true = ap D p.3 ∙ f in
    elim (cases_lt p.0 (count D ss)) [
      | inl l ↦ q.below i (let m = p.1 in omega arith)
      | inr l ↦ absurd (let k = q.above p.0 l p.2 in cc)
    ]

-- ---- the other slots of the partition

from_start : (ring : RingValue) (plan : List Planned) → Known ring plan → HaveLeft ring plan (Before plan) → (D : ℕ → Bool) (t j : ℕ) (slot : Slot) (x : NodeId) → Closed plan D → Ready plan D t → step_at plan t ≡ Some (Mirror slot x) → j ≢ slot.index
    → FromStart ring plan (sibling slot j) x (count D (steps_of plan (sibling slot j))) → ⊥
from_start ring plan k left D t j slot x c y at ne f =
    let d = down ring plan k D c (sibling slot j) in
    let e = ends plan _ t (left.first t j slot x at ne f.0) in
    let w = (prefix D (steps_of plan (sibling slot j)) d).within in
    not_done D (steps_of plan (sibling slot j)) e.0 d (ends_later ring plan (sibling slot j) x (count D (steps_of plan (sibling slot j))) e.0 w f e.1) (before_ready plan D e.0 t c y e.2)

-- it mirrored the other slot at a step of smaller number
from_earlier : (ring : RingValue) (plan : List Planned) → Known ring plan → HaveLeft ring plan (Before plan) → (D : ℕ → Bool) (t j b : ℕ) (slot : Slot) (x : NodeId) → Closed plan D → Ready plan D t → step_at plan t ≡ Some (Mirror slot x) → j ≢ slot.index
    → FromMirror ring plan (sibling slot j) x (count D (steps_of plan (sibling slot j))) b → get_or (steps_of plan (sibling slot j)) b 0 < t → ⊥
from_earlier ring plan k left D t j b slot x c y at ne f l =
    let other = steps_of plan (sibling slot j) in
    let d = down ring plan k D c (sibling slot j) in
    let w : count D other ≤ length other = (prefix D other d).within in
    let h : b < count D other = f.0 in
    let p : place_in plan (sibling slot j) (get_or other b 0) ≡ b = place other b (rises ring plan k (sibling slot j)) (omega arith) in
    let e = ends plan _ t (left.later t (get_or other b 0) j slot x at ne l f.1) in
    let is : mirror_end ring plan (sibling slot j) b x ≡ Some e.0 = ap (λ (i : ℕ). mirror_end ring plan (sibling slot j) i x) (sym p) ∙ e.1 in
    not_done D other e.0 d (mirror_ends_later ring plan (sibling slot j) x (count D other) b e.0 w f is) (before_ready plan D e.0 t c y e.2)

-- or of larger number
from_later : (ring : RingValue) (plan : List Planned) → Known ring plan → HaveLeft ring plan (Before plan) → (D : ℕ → Bool) (t m j : ℕ) (slot : Slot) (x : NodeId) → Closed plan D → D t ≡ false → step_at plan t ≡ Some (Mirror slot x) → j ≢ slot.index
    → step_at plan m ≡ Some (Mirror (sibling slot j) x) → D m ≡ true → t < m → ⊥
from_later ring plan k left D t m j slot x c off at ne on done l =
    let mine = steps_of plan slot in
    let d = down ring plan k D c slot in
    let z : 0 + t ≡ t = omega arith in
    let e = ends plan _ m (left.later m t slot.index (sibling slot j) x on (λ i. ne (sym i)) l at) in
    let h : has t mine ≡ true = subst (λ (n : ℕ). has n mine ≡ true) z (has-from 0 t plan slot (Mirror slot x) at (slot-same slot)) in
    let i = found t mine h in
    let p : place_in plan slot t ≡ i.0 = ap (place_in plan slot) (sym i.2) ∙ place mine i.0 (rises ring plan k slot) i.1 in
    let is : mirror_end ring plan slot i.0 x ≡ Some e.0 = ap (λ (n : ℕ). mirror_end ring plan slot n x) (sym p) ∙ e.1 in
    let g = front_done D mine i.0 e.0 d (leaving_has plan x (stage ring plan slot (suc i.0)) (drop (suc i.0) mine) e.0 is) (before_done plan D e.0 m c e.2 done) in
    let yet : D t ≡ true = ap D (sym i.2) ∙ g in
    absurd cc

pub mirrored_alone : (ring : RingValue) (plan : List Planned) → Known ring plan → HaveLeft ring plan (Before plan) → (D : ℕ → Bool) (t j : ℕ) (slot : Slot) (x : NodeId) → Closed plan D → Ready plan D t → D t ≡ false → step_at plan t ≡ Some (Mirror slot x)
    → slot.partition < ring.q → j < ring.n → j ≢ slot.index → Serves ring plan (sibling slot j) x (count D (steps_of plan (sibling slot j))) → ⊥
mirrored_alone ring plan k left D t j slot x c y off at p l ne s =
    let other = steps_of plan (sibling slot j) in
    let q = prefix D other (down ring plan k D c (sibling slot j)) in
    elim (occupied ring plan (sibling slot j) x (count D other) k.is_ring p l q.within s) [
      | inl f ↦ from_start ring plan k left D t j slot x c y at ne f
      | inr f ↦ elim (cases_lt (get_or other f.0 0) t) [
        | inl g ↦ from_earlier ring plan k left D t j f.0 slot x c y at ne f.1 g
        | inr g ↦ later f.0 f.1 g
      ]
    ]
  where
    later : (b : ℕ) → FromMirror ring plan (sibling slot j) x (count D (steps_of plan (sibling slot j))) b → t ≤ get_or (steps_of plan (sibling slot j)) b 0 → ⊥
    later b f g =
        let other = steps_of plan (sibling slot j) in
        let done : D (get_or other b 0) ≡ true = (prefix D other (down ring plan k D c (sibling slot j))).below b f.0 in
        elim (cases_lt t (get_or other b 0)) [
          | inl h ↦ from_later ring plan k left D t (get_or other b 0) j slot x c off at ne f.1 done h
          | inr h ↦ absurd (let e : get_or other b 0 ≡ t = omega arith in let z = ap D e in cc)
        ]
