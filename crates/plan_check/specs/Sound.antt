-- Which plans are sound.
use Rattle.std.specs.Prelude.{◌≡◌, ◌≢◌, ◌⊎◌, ℕ, suc, ◌<◌, ◌≤◌, Bool, true, false, List, [], ◌∷◌, length, get_or, Option, Some, None}
use Rattle.ring_names.specs.Lists.{has, all_different}
use Rattle.ring_names.specs.declared.ids.NodeId.{NodeId}
use Rattle.ring_names.specs.declared.ids.Slot.{Slot}
use Rattle.ring_table.specs.declared.allowance.Side.{Side}
use Rattle.ring_table.specs.Value.{RingValue, is_member, allowance_of, owner_of}
use Rattle.plan_text.specs.declared.step.Source.TheVariants.{Slots}
use Rattle.plan_text.specs.declared.step.Step.TheVariants.{Join, Mirror, Copy, Switch, Retire}
use Rattle.plan_text.specs.declared.step.Planned.{Planned}
use Rattle.plan_text.specs.Steps.{steps_of}
use Rattle.plan_text.specs.Valid.{Suits}
use Rattle.plan_order.specs.Before.{Before}
use Rattle.plan_stage.specs.Stage.{is_among}
use Rattle.plan_stage.specs.Clauses.{IsStagedSlot}
use Rattle.plan_stage.specs.Occupancy.{first_end, mirror_end, first_drop, mirror_drop}
use Rattle.plan_stage.specs.Parties.{parties_on}
use Rattle.plan_stage.specs.Each.{step_at, sibling, place_in}
use Rattle.plan_cover.specs.Clauses.{in_some}

-- an order of steps
abbrev pub Order : Type 1
Order = ℕ → ℕ → Type 0

-- there is such a step, and it comes before t
abbrev pub EndsBefore : Order → Option ℕ → ℕ → Type 0
EndsBefore O None t = ⊥
EndsBefore O (Some e) t = O e t

-- each entry comes before the next
abbrev pub IsChain : Order → List ℕ → Type 0
IsChain O [] = Unit {0}
IsChain O (a ∷ []) = Unit {0}
IsChain O (a ∷ b ∷ rest) = O a b × IsChain O (b ∷ rest)

-- each of them is a chain
abbrev pub AreChains : Order → List (List ℕ) → Type 0
AreChains O [] = Unit {0}
AreChains O (c ∷ cs) = IsChain O c × AreChains O cs

-- at most so many chains have between them each step that passes the test
pub record Covers (O : Order) (most : ℕ) (is_one : ℕ → Bool) (chains : List (List ℕ)) : Type 0 where
  pub few : length chains ≤ most
  pub linked : AreChains O chains
  pub covered : (n : ℕ) → is_one n ≡ true → in_some n chains ≡ true

-- they have no other step
abbrev pub HaveOnly : (ℕ → Bool) → List (List ℕ) → Type 0
HaveOnly is_one chains = (n : ℕ) → in_some n chains ≡ true → is_one n ≡ true

-- the node takes part in step n on that side, by the plan
abbrev pub is_party_of : RingValue → List Planned → ℕ → Side → ℕ → Bool
is_party_of ring plan x side n = is_among (record { 0 = x }) (parties_on ring plan side n)

-- the steps of each slot act in order
pub record AreInTurn (ring : RingValue) (plan : List Planned) (O : Order) : Type 0 where
  -- its steps are about nodes and slots of the ring
  pub suits : Suits ring plan
  -- each step of a slot fits the stage before it
  pub staged : (slot : Slot) → IsStagedSlot ring plan slot
  -- and comes after the slot's step before it
  pub in_order : (slot : Slot) (k : ℕ) → suc k < length (steps_of plan slot)
      → O (get_or (steps_of plan slot) k 0) (get_or (steps_of plan slot) (suc k) 0)

-- a copy reads its owner, or at least R slots, all different
abbrev pub ReadEnough : RingValue → List Planned → Type 0
ReadEnough ring plan = (n : ℕ) (slot : Slot) (from : List ℕ) → step_at plan n ≡ Some (Copy slot (Slots from))
    → (all_different from ≡ true) × (ring.r ≤ length from)

-- each switch of a listed slot comes before or after the copy
abbrev pub AreSettled : List Planned → Order → Type 0
AreSettled plan O = (n m j : ℕ) (slot : Slot) (from : List ℕ) → step_at plan n ≡ Some (Copy slot (Slots from)) → has j from ≡ true
    → step_at plan m ≡ Some (Switch (sibling slot j)) → O m n ⊎ O n m

-- a mirrored node has left each other slot of the partition
pub record HaveLeft (ring : RingValue) (plan : List Planned) (O : Order) : Type 0 where
  -- that it served from the start
  pub first : (t j : ℕ) (slot : Slot) (x : NodeId) → step_at plan t ≡ Some (Mirror slot x) → j ≢ slot.index
      → owner_of ring (sibling slot j) ≡ Some x → EndsBefore O (first_end ring plan (sibling slot j)) t
  -- and that it served from an earlier step on
  pub later : (t b j : ℕ) (slot : Slot) (x : NodeId) → step_at plan t ≡ Some (Mirror slot x) → j ≢ slot.index
      → b < t → step_at plan b ≡ Some (Mirror (sibling slot j) x)
      → EndsBefore O (mirror_end ring plan (sibling slot j) (place_in plan (sibling slot j) b) x) t

-- a node that is `out` joins before the step
abbrev pub JoinsBefore : RingValue → List Planned → Order → ℕ → NodeId → Type 0
JoinsBefore ring plan O t x = is_member ring.nodes x ≡ false → (j : ℕ) × (step_at plan j ≡ Some (Join x)) × O j t

-- nodes serve slots after they have joined and before they retire
pub record ServeAsMembers (ring : RingValue) (plan : List Planned) (O : Order) : Type 0 where
  -- a node joins before it is mirrored
  pub joined : (t : ℕ) (slot : Slot) (x : NodeId) → step_at plan t ≡ Some (Mirror slot x) → JoinsBefore ring plan O t x
  -- a node that retires has dropped what it held from the start
  pub dropped_first : (t : ℕ) (slot : Slot) (x : NodeId) → step_at plan t ≡ Some (Retire x)
      → owner_of ring slot ≡ Some x → EndsBefore O (first_drop ring plan slot) t
  -- and what it held since it was mirrored
  pub dropped_later : (t b : ℕ) (slot : Slot) (x : NodeId) → step_at plan t ≡ Some (Retire x)
      → step_at plan b ≡ Some (Mirror slot x) → EndsBefore O (mirror_drop plan slot (place_in plan slot b) x) t

-- on each side that a declared node's allowance counts, at most so many chains have all copies in which the
-- node takes part there
abbrev pub AreCovered : RingValue → List Planned → Order → (ℕ → Side → List (List ℕ)) → Type 0
AreCovered ring plan O chains = (x : ℕ) (side : Side) (a : ℕ) → allowance_of ring x side ≡ Some a → Covers O a (is_party_of ring plan x side) (chains x side)

-- what a plan must meet, by an order of its steps and chains for each side of a node
pub record Meets (ring : RingValue) (plan : List Planned) (O : Order) (chains : ℕ → Side → List (List ℕ)) : Type 0 where
  pub in_turn : AreInTurn ring plan O
  pub sources : ReadEnough ring plan
  pub settled : AreSettled plan O
  pub left : HaveLeft ring plan O
  pub members : ServeAsMembers ring plan O
  -- a node joins before it retires
  pub retired : (t : ℕ) (x : NodeId) → step_at plan t ≡ Some (Retire x) → JoinsBefore ring plan O t x
  pub covers : AreCovered ring plan O chains

-- a plan is sound where it meets this by "before", with some chains
abbrev pub Sound : RingValue → List Planned → Type 0
Sound ring plan = (chains : ℕ → Side → List (List ℕ)) × Meets ring plan (Before plan) chains
