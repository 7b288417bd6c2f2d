-- What two stores say that are compared.
use Rattle.std.proofs.Common.{◌≡◌, ◌∙◌, ℕ, ◌<◌, Bool, true, false, List, Option, Some, None, sym, ap, subst, lt-ltb}
use Rattle.std.specs.Prelude.{◌==◌, ◌&&◌, nat_lt}
use Rattle.std.specs.Int.{bit_at}
use Rattle.std.proofs.Math.Logic.{∥∥₁_elim, ∥∥₁_map}
use Rattle.std.proofs.Props.{props}
use Rattle.ring_names.specs.declared.ids.NodeId.{NodeId}
use Rattle.ring_names.specs.declared.ids.Slot.{Slot}
use Rattle.ring_table.specs.Value.{RingValue}
use Rattle.plan_text.specs.declared.step.Planned.{Planned}
use Rattle.plan_text.specs.Valid.{is_ring_slot}
use Rattle.plan_runs.specs.World.{World as TheWorld}
use Rattle.plan_runs.specs.declared.event.Entry.{Entry}
use Rattle.ring_core.specs.World.{ring_of, plan_of, Meets}
use Rattle.ring_core.specs.Replays.{Replays}
use Rattle.ring_core.proofs.SlotOwners.{in_ring}
use Rattle.ring_core.specs.declared.world.World.{World}
use Rattle.plan_around.specs.Alike.{last_step, AreAlike, InBoth, LeadAlike}
use Rattle.plan_around.specs.Around.{LeadsWell}
use Rattle.plan_around.specs.Ends.{EndsWell}
use Rattle.plan_runs.specs.declared.back.Back.{Back}
use Rattle.ringplan_request.specs.declared.making.Extent.{Extent}

-- nodes of one number are one
pub same_node : (x y : NodeId) → x.0 ≡ y.0 → x ≡ y
same_node x y e = ap (λ (n : ℕ). record { 0 = n }) e

-- masks that are equal say the same of each slot
pub same_bit : (m n : ℕ) (i a b : ℕ) (x y : Bool) → m ≡ n → i < a → i < b → (bit_at m i == 1) ≡ (nat_lt i a && x) → (bit_at n i == 1) ≡ (nat_lt i b && y) → y ≡ x
same_bit m n i a b x y e la lb f g =
    let first : (bit_at m i == 1) ≡ x = f ∙ ap (λ (t : Bool). t && x) (lt-ltb i a la) in
    let second : (bit_at n i == 1) ≡ y = g ∙ ap (λ (t : Bool). t && y) (lt-ltb i b lb) in
    sym second ∙ sym (ap (λ (k : ℕ). bit_at k i == 1) e) ∙ first

-- nothing is something
pub not_some : {A : Type 0} (o : Option A) (x : A) → None ≡ o → o ≡ Some x → ⊥
not_some o x e f = let h : ◌≡◌ {A = Option _} None (Some x) = e ∙ f in cc

-- something is one thing
pub same_some : {A : Type 0} (x y : A) → ◌≡◌ {A = Option A} (Some x) (Some y) → x ≡ y
same_some x y e = cc

-- a test has one answer
pub not_both : (b : Bool) → b ≡ true → b ≡ false → ⊥
not_both b e f = let h : true ≡ false = sym e ∙ f in cc

-- the mirror that is found
pub mirror_is : (found : Option (NodeId × Option NodeId)) (owner : NodeId) (mirror : Option NodeId) (now : NodeId × Option NodeId) → found ≡ Some (owner, mirror) → found ≡ Some now → mirror ≡ now.1
mirror_is found owner mirror now e f = second (owner, mirror) now (sym e ∙ f)
  where
    second : (y z : NodeId × Option NodeId) → ◌≡◌ {A = Option (NodeId × Option NodeId)} (Some y) (Some z) → y.1 ≡ z.1
    second y z h = (let k : y ≡ z = cc in ap (λ (v : NodeId × Option NodeId). v.1) k)

-- histories that lead to two stores that are alike lead to worlds that are
pub led : (back : Back) (left : List Slot) (ring : RingValue) (old new : List Planned) (a b : World) (earlier later : List Entry) → ring_of a ≡ ring → plan_of a ≡ old → ring_of b ≡ ring
    → plan_of b ≡ new → InBoth a b (AreAlike back left) → Replays ring old a earlier → Replays ring new b later → LeadAlike back left ring old new earlier later
led back left ring old new a b earlier later ra pa rb pb alike first second =
    ∥∥₁_elim first (hlevel props) (λ x. ∥∥₁_map second (λ y. (x.0, y.0, x.2, y.2, moved x.0 y.0 (alike x.0 y.0 x.1 y.1))))
  where
    moved : (w u : TheWorld) → AreAlike back left (ring_of a) (plan_of a) w (ring_of b) (plan_of b) u → AreAlike back left ring old w ring new u
    moved w u h =
        subst (λ (r : RingValue). AreAlike back left r old w ring new u) ra
        (subst (λ (p : List Planned). AreAlike back left (ring_of a) p w ring new u) pa
        (subst (λ (s : RingValue). AreAlike back left (ring_of a) (plan_of a) w s new u) rb
        (subst (λ (q : List Planned). AreAlike back left (ring_of a) (plan_of a) w (ring_of b) q u) pb h)))

-- a history that leads to a store leads to a world from which a plan ends well. This needs that the plan does
-- so from each world that the store may be in
pub led_well : (extent : Extent) (back : Back) (ring : RingValue) (old new : List Planned) (a : World) (dead : List NodeId) (left : List Slot) (earlier : List Entry)
    → Replays ring old a earlier → ((w : TheWorld) → Meets a w → EndsWell extent back ring old w new dead left) → LeadsWell extent back ring old new dead left earlier
led_well extent back ring old new a dead left earlier first well = ∥∥₁_map first (λ x. (x.0, x.2, well x.0 x.1))

-- the slot of a put is the ring's
pub put_in_ring : (ring : RingValue) (slot : Slot) (i : ℕ) → slot.partition < ring.q → slot.index ≡ i → i < ring.n → is_ring_slot ring slot ≡ true
put_in_ring ring slot i p e l = in_ring ring slot.partition slot.index p (subst (λ (j : ℕ). j < ring.n) (sym e) l)

-- the last step is done
pub last_done : (plan : List Planned) (slot : Slot) (u : TheWorld) (m n : ℕ) → last_step plan slot ≡ Some n → Some m ≡ last_step plan slot → u.done m ≡ true → u.done n ≡ true
last_done plan slot u m n e f d = (let g : Some m ≡ Some n = f ∙ e in let k : m ≡ n = cc in subst (λ (z : ℕ). u.done z ≡ true) k d)
