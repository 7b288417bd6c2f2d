-- How the checker looks at a clause: lists of step numbers that grow by what the slots of a partition have to look at.
use Rattle.std.specs.Prelude.{◌≡◌, ℕ, ◌<◌, Bool, true, false, List, length, nat_lt, Option, Some, option_map}
use Rattle.std.specs.List.{list_all}
use Rattle.ring_names.specs.Lists.{has}
use Rattle.ring_names.specs.declared.ids.NodeId.{NodeId}
use Rattle.ring_names.specs.declared.ids.Slot.{Slot}
use Rattle.ring_table.specs.Value.{RingValue, owner_of}
use Rattle.plan_text.specs.declared.step.Step.{Step}
use Rattle.plan_text.specs.declared.step.Step.TheVariants.{Join, Mirror, Copy, Switch, Drop, Retire}
use Rattle.plan_text.specs.declared.step.Planned.{Planned}
use Rattle.plan_text.specs.Steps.{steps_of, retirement_of, mirror_of}
use Rattle.plan_stage.specs.Each.{step_at, slot_in}

-- a mirror or a copy: nothing more is asked of a slot's other steps
abbrev pub is_looked_at : Step → Bool
is_looked_at (Mirror slot x) = true
is_looked_at (Copy slot from) = true
is_looked_at (Join x) = false
is_looked_at (Switch slot) = false
is_looked_at (Drop slot x) = false
is_looked_at (Retire x) = false

-- the node that the step mirrors a slot to
abbrev pub mirrored_node : Step → Option NodeId
mirrored_node s = option_map (λ m. m.1) (mirror_of s)

-- each is the number of a step
abbrev pub are_steps : List Planned → List ℕ → Bool
are_steps plan numbers = list_all (λ n. nat_lt n (length plan)) numbers

-- the old numbers stay, and the new ones are steps if the old ones are
pub record Grows (plan : List Planned) (old new : List ℕ) : Type 0 where
  pub stay : (n : ℕ) → has n old ≡ true → has n new ≡ true
  pub steps : are_steps plan old ≡ true → are_steps plan new ≡ true

-- the step that retires the node is among them, if there is one
abbrev pub HasRetirement : List Planned → NodeId → List ℕ → Type 0
HasRetirement plan x numbers = (n : ℕ) → retirement_of plan x.0 ≡ Some n → has n numbers ≡ true

-- so is this step, if it is looked at, and the retirement of the node that it mirrors a slot to
pub record HasStep (plan : List Planned) (n : ℕ) (numbers : List ℕ) : Type 0 where
  pub here : (s : Step) → step_at plan n ≡ Some s → is_looked_at s ≡ true → has n numbers ≡ true
  pub mirrored : (s : Step) (x : NodeId) → step_at plan n ≡ Some s → mirrored_node s ≡ Some x → HasRetirement plan x numbers

-- so is what belongs to the slot: what its steps have, and the retirement of its first owner
pub record HasSlot (ring : RingValue) (plan : List Planned) (slot : Slot) (numbers : List ℕ) : Type 0 where
  pub owner : (x : NodeId) → owner_of ring slot ≡ Some x → HasRetirement plan x numbers
  pub steps : (n : ℕ) → has n (steps_of plan slot) ≡ true → HasStep plan n numbers

-- they are steps, and have what belongs to the ring's slots in the partition
pub record IsGathered (ring : RingValue) (plan : List Planned) (p : ℕ) (numbers : List ℕ) : Type 0 where
  pub within : are_steps plan numbers ≡ true
  pub slots : (i : ℕ) → i < ring.n → HasSlot ring plan (slot_in p i) numbers
