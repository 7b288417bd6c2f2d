-- What is found of the end of a plan, store by store and place by place.
use Rattle.std.specs.Prelude.{◌≡◌, ◌⊎◌, ◌==◌, ℕ, Bool, true, List}
use Rattle.std.specs.List.{list_any}
use Rattle.ring_names.specs.Lists.{has}
use Rattle.ring_names.specs.declared.ids.NodeId.{NodeId}
use Rattle.ring_names.specs.declared.ids.Slot.{Slot}
use Rattle.plan_text.specs.Changes.{numbers}
use Rattle.plan_text.specs.declared.step.Step.{Step}
use Rattle.plan_text.specs.declared.step.Step.TheVariants.{Mirror}
use Rattle.plan_runs.specs.World.{World as TheWorld, keeps, slot_at}
use Rattle.plan_goal.specs.Reached.{member_after}
use Rattle.plan_goal.specs.Sized.{is_flagged}
use Rattle.ring_core.specs.World.{Meets, ring_of, plan_of}
use Rattle.ring_core.specs.declared.world.World.{World}
use Rattle.plan_moves.specs.Owners.{IsPast}
use Rattle.plan_around.specs.declared.ending.Endings.{Endings}
use Rattle.plan_around.specs.declared.ending.Ended.{Ended}
use Rattle.plan_around.specs.Ends.{IsExcused, MayDiffer, MayHold, MayKeep, ShouldOwn, last_owner}

-- in each world that the store may be in, one of these nodes keeps a hint for a slot of the partition
abbrev pub KeepsIn : World → List NodeId → ℕ → Type 0
KeepsIn store dead p = (w : TheWorld) → Meets store w → (i : ℕ) × (x : NodeId) × (has x.0 (numbers dead) ≡ true) × (keeps w x.0 (slot_at p i) ≡ true)

-- so it is in each partition that is marked
abbrev pub HintsIn : World → List NodeId → List Bool → Type 0
HintsIn store dead marks = (p : ℕ) → is_flagged marks p ≡ true → KeepsIn store dead p

-- in each partition that is marked one of these slots is left
abbrev pub StaysIn : List Slot → List Bool → Type 0
StaysIn left marks = (p : ℕ) → is_flagged marks p ≡ true → list_any (λ s. s.partition == p) left ≡ true

-- the step mirrors a slot of the partition at one of these nodes
abbrev pub MirrorsIn : Step → List NodeId → ℕ → Type 0
MirrorsIn step dead p = (i : ℕ) × (x : NodeId) × (step ≡ Mirror (slot_at p i) x) × (has x.0 (numbers dead) ≡ true)

-- the step mirrors a slot at that node
abbrev pub MirrorsAt : Step → ℕ → Type 0
MirrorsAt step x = (s : Slot) × (y : NodeId) × (step ≡ Mirror s y) × (y.0 ≡ x)

-- in each world that the store may be in, each node that is marked may hold something once the new plan is done
abbrev pub HoldsIn : Endings → List Bool → Type 0
HoldsIn it marks = (x : ℕ) → is_flagged marks x ≡ true → (w : TheWorld) → Meets it.before.now w → MayHold it.ring.now it.new.now w x

-- from each world that the store may be in, the slot ends where it should
abbrev pub SlotEnds : Endings → ℕ → ℕ → Type 0
SlotEnds it p i = (w : TheWorld) → Meets it.before.now w
    → ShouldOwn it.extent it.back it.ring.now it.old.now w (slot_at p i) (last_owner it.ring.now it.new.now (slot_at p i)) ⊎ IsExcused it.ring.now it.old.now w it.dead.now it.left.now p

-- so does a slot that is to stay
abbrev pub SlotStays : Endings → Slot → Type 0
SlotStays it s = (w : TheWorld) → Meets it.before.now w → MayKeep it.ring.now it.old.now w s (last_owner it.ring.now it.new.now s)

-- and likewise the node
abbrev pub NodeEnds : Endings → ℕ → Type 0
NodeEnds it x = (w : TheWorld) → Meets it.before.now w
    → (member_after it.ring.now it.new.now x ≡ member_after it.ring.now it.old.now x) ⊎ MayDiffer it.extent it.ring.now it.new.now w it.dead.now x

-- what is found of two plans is so. It is who serves each slot once they are done, the dead, and their hints in
-- the first plan's store
pub record AreEnds (it : Endings) (ended : Ended) : Type 0 where
  pub old : IsPast it.ring.now it.old.now ended.old
  pub new : IsPast it.ring.now it.new.now ended.new
  pub dead : ended.dead.nodes.now ≡ it.dead.now
  pub hinted : HintsIn it.before.now ended.dead.nodes.now ended.hinted.items
  pub left : StaysIn it.left.now ended.left.items
  pub ring : ring_of it.before.now ≡ it.ring.now
  pub plan : plan_of it.before.now ≡ it.old.now
