-- The end of a plan that goes on in place of another one.
use Rattle.std.specs.Prelude.{◌≡◌, ◌⊎◌, ◌<◌, ◌≤◌, ◌==◌, ◌||◌, ℕ, true, false, List, length, Some, None, slice_get}
use Rattle.std.specs.List.{list_any}
use Rattle.ring_names.specs.Lists.{has}
use Rattle.ring_names.specs.declared.ids.NodeId.{NodeId}
use Rattle.ring_names.specs.declared.ids.Slot.{Slot}
use Rattle.ring_table.specs.Value.{RingValue}
use Rattle.plan_text.specs.Changes.{numbers}
use Rattle.plan_text.specs.Steps.{steps_of}
use Rattle.plan_text.specs.declared.step.Planned.{Planned}
use Rattle.plan_text.specs.declared.step.Source.{Source}
use Rattle.plan_text.specs.declared.step.Step.TheVariants.{Copy, Mirror, Switch}
use Rattle.plan_stage.specs.Each.{step_at}
use Rattle.plan_runs.specs.World.{World, keeps, slot_at, stage_now}
use Rattle.plan_runs.specs.declared.back.Back.{Back}
use Rattle.plan_runs.specs.declared.back.Back.TheVariants.{Allowed}
use Rattle.plan_moves.specs.Moves.{served_before}
use Rattle.plan_goal.specs.Reached.{member_after}
use Rattle.plan_goal.specs.Sized.{row_at}
use Rattle.ringplan_request.specs.declared.making.Extent.{Extent}
use Rattle.ringplan_request.specs.declared.making.Extent.TheVariants.{Whole, Begun}
use Rattle.plan_around.specs.Apart.{is_whole}

-- who owns the slot once the plan is done
abbrev pub last_owner : RingValue → List Planned → Slot → NodeId
last_owner ring plan s = (served_before ring plan (length plan) s).owner

-- one of these nodes has to do with a partition. The node owns a slot, or the plan mirrors a slot at the node,
-- or the node keeps a hint
pub data IsTouched (ring : RingValue) (plan : List Planned) (w : World) (dead : List NodeId) (p : ℕ) : Type 0 where
  owned : list_any (λ x. has x.0 (numbers dead)) (row_at ring.owners p) ≡ true → IsTouched ring plan w dead p
  mirrored : (n i : ℕ) (x : NodeId) → has x.0 (numbers dead) ≡ true → step_at plan n ≡ Some (Mirror (slot_at p i) x) → IsTouched ring plan w dead p
  hinted : (i : ℕ) (x : NodeId) → has x.0 (numbers dead) ≡ true → keeps w x.0 (slot_at p i) ≡ true → IsTouched ring plan w dead p

-- a slot of the partition may end elsewhere. A dead node has to do with the partition, or some slot is left
-- with its owner
pub data IsExcused (ring : RingValue) (plan : List Planned) (w : World) (dead : List NodeId) (left : List Slot) (p : ℕ) : Type 0 where
  touched : IsTouched ring plan w dead p → IsExcused ring plan w dead left p
  stays : list_any (λ s. s.partition == p) left ≡ true → IsExcused ring plan w dead left p

-- the node should own the slot in the end. If the whole plan goes on, the node owns the slot once the old plan
-- is done. If only what has begun is ended, the node mirrors the slot now. Or the node owns the slot now, and
-- there is no mirror or the mirror may be undone
abbrev pub ShouldOwn : Extent → Back → RingValue → List Planned → World → Slot → NodeId → Type 0
ShouldOwn Whole back ring old w s x = x ≡ last_owner ring old s
ShouldOwn Begun back ring old w s x = ((stage_now ring old w s).mirror ≡ Some x)
    ⊎ ((x ≡ (stage_now ring old w s).owner) × (((stage_now ring old w s).mirror ≡ None) ⊎ (back ≡ Allowed)))

-- the step at place i of the slot's steps is not a switch that is done
abbrev pub IsUnswitched : List Planned → World → Slot → ℕ → Type 0
IsUnswitched plan w s i = (k : ℕ) → slice_get (steps_of plan s) i ≡ Some k → step_at plan k ≡ Some (Switch s) → w.done k ≡ false

-- the slot's switches from place j of its steps on are to come
abbrev pub AreToCome : List Planned → World → Slot → ℕ → Type 0
AreToCome plan w s j = (i : ℕ) → j ≤ i → IsUnswitched plan w s i

-- step n is a copy of the slot that has given all: it is done, or open with all chunks marked
abbrev pub HasGiven : List Planned → World → Slot → ℕ → Type 0
HasGiven plan w s n = (from : Source) × (step_at plan n ≡ Some (Copy s from)) × ((w.done n || is_whole w n) ≡ true)

-- such a copy fills the mirror that the slot has now, since the slot's switches after it are to come
abbrev pub IsGiven : List Planned → World → Slot → Type 0
IsGiven plan w s = (j n : ℕ) × (slice_get (steps_of plan s) j ≡ Some n) × HasGiven plan w s n × AreToCome plan w s j

-- the node may in the end own a slot that is to stay. It owns the slot now, or mirrors it now and a copy of the
-- slot has given all
abbrev pub MayKeep : RingValue → List Planned → World → Slot → NodeId → Type 0
MayKeep ring plan w s x = (x ≡ (stage_now ring plan w s).owner) ⊎ (((stage_now ring plan w s).mirror ≡ Some x) × IsGiven plan w s)

-- the node may still hold something once the plan is done. The node owns a slot then, or the plan mirrors a
-- slot there, or the node keeps a hint
pub data MayHold (ring : RingValue) (plan : List Planned) (w : World) (x : ℕ) : Type 0 where
  owner : (p i : ℕ) → (last_owner ring plan (slot_at p i)).0 ≡ x → MayHold ring plan w x
  mirror : (n : ℕ) (s : Slot) (y : NodeId) → step_at plan n ≡ Some (Mirror s y) → y.0 ≡ x → MayHold ring plan w x
  keeper : (s : Slot) → keeps w x s ≡ true → MayHold ring plan w x

-- whether the node is a member in the end may change: it is dead, or may hold something, or only what has begun
-- ends
pub data MayDiffer (extent : Extent) (ring : RingValue) (new : List Planned) (w : World) (dead : List NodeId) (x : ℕ) : Type 0 where
  is_dead : has x (numbers dead) ≡ true → MayDiffer extent ring new w dead x
  holds : MayHold ring new w x → MayDiffer extent ring new w dead x
  begun : extent ≡ Begun → MayDiffer extent ring new w dead x

-- from world w of the old plan the new one ends where it should. Each slot has the owner that it should have,
-- and a slot that is left an owner that it may have. The members are those of the old plan's end
pub record EndsWell (extent : Extent) (back : Back) (ring : RingValue) (old : List Planned) (w : World) (new : List Planned) (dead : List NodeId) (left : List Slot) : Type 0 where
  pub slots : (p : ℕ) → p < ring.q → (i : ℕ) → i < ring.n
      → ShouldOwn extent back ring old w (slot_at p i) (last_owner ring new (slot_at p i)) ⊎ IsExcused ring old w dead left p
  pub stay : (i : ℕ) (s : Slot) → slice_get left i ≡ Some s → MayKeep ring old w s (last_owner ring new s)
  pub members : (x : ℕ) → x < length ring.nodes → (member_after ring new x ≡ member_after ring old x) ⊎ MayDiffer extent ring new w dead x
