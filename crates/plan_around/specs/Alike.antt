-- Stores by two plans that are alike.
use Rattle.std.specs.Prelude.{◌≡◌, ◌⊎◌, ℕ, ◌-◌, ◌<◌, Bool, true, false, ◌||◌, List, length, Option, Some, None, slice_get}
use Rattle.std.specs.List.{list_any}
use Rattle.ring_names.specs.declared.ids.NodeId.{NodeId}
use Rattle.ring_names.specs.declared.ids.Slot.{Slot}
use Rattle.ring_table.specs.Value.{RingValue}
use Rattle.plan_text.specs.declared.step.Planned.{Planned}
use Rattle.plan_text.specs.Steps.{is_slot, steps_of}
use Rattle.plan_runs.specs.World.{World as TheWorld, slot_at, stage_now}
use Rattle.plan_runs.specs.Versions.{put_slot, is_held}
use Rattle.plan_runs.specs.declared.event.Entry.{Entry}
use Rattle.plan_runs.specs.declared.back.Back.{Back}
use Rattle.plan_runs.specs.Runs.{IsRun}
use Rattle.history_laws.specs.Past.{allows}
use Rattle.history_laws.specs.Slots.{is_in}
use Rattle.history_laws.specs.declared.slots.SlotSet.{SlotSet}
use Rattle.plan_goal.specs.Sized.{is_flagged}
use Rattle.ring_core.specs.Mirrors.{is_stored}
use Rattle.ring_core.specs.World.{Meets, ring_of, plan_of}
use Rattle.ring_core.specs.declared.world.World.{World}

-- ---- a world w of a ring and a plan, and a world u of another ring and another plan

-- the slot has the same owner in both
abbrev pub OwnerAlike : RingValue → List Planned → TheWorld → RingValue → List Planned → TheWorld → Slot → Type 0
OwnerAlike r old w s new u slot = (stage_now s new u slot).owner ≡ (stage_now r old w slot).owner

-- whether a mirror of the slot may be undone: that is allowed, or the slot stays with its owner
abbrev pub may_return : Back → List Slot → Slot → Bool
may_return back left slot = allows back || list_any (λ s. is_slot s slot) left

-- the slot has the same mirror in both; or it has none in the second, if the mirror may be undone
abbrev pub MirrorAlike : Back → List Slot → RingValue → List Planned → TheWorld → RingValue → List Planned → TheWorld → Slot → Type 0
MirrorAlike back left r old w s new u slot = ((stage_now s new u slot).mirror ≡ (stage_now r old w slot).mirror)
    ⊎ (((stage_now s new u slot).mirror ≡ None) × (may_return back left slot ≡ true))

-- the slot has the same owner and such a mirror in both
abbrev pub NodesAlike : Back → List Slot → RingValue → List Planned → TheWorld → RingValue → List Planned → TheWorld → Slot → Type 0
NodesAlike back left r old w s new u slot = OwnerAlike r old w s new u slot × MirrorAlike back left r old w s new u slot

-- the slot of index i of put v's partition holds the put in both or in neither
abbrev pub HeldAlike : RingValue → List Planned → TheWorld → RingValue → List Planned → TheWorld → ℕ → ℕ → Type 0
HeldAlike r old w s new u v i = is_held s new u v (put_slot s u v i) ≡ is_held r old w v (put_slot r w v i)

-- the number of the slot's last step
abbrev pub last_step : List Planned → Slot → Option ℕ
last_step plan slot = slice_get (steps_of plan slot) (length (steps_of plan slot) - 1)

-- the node stores the put or one that succeeds it in both or in neither
abbrev pub StoredAlike : RingValue → TheWorld → RingValue → TheWorld → ℕ → ℕ → NodeId → Type 0
StoredAlike r w s u v i x = is_stored u x.0 (put_slot s u v i) v ≡ is_stored w x.0 (put_slot r w v i) v

-- so does the slot's mirror in the second, if the slot's last step is to come there
abbrev pub MirroredAlike : RingValue → List Planned → TheWorld → RingValue → List Planned → TheWorld → ℕ → ℕ → Type 0
MirroredAlike r old w s new u v i = (x : NodeId) → (stage_now s new u (put_slot s u v i)).mirror ≡ Some x
    → (n : ℕ) → last_step new (put_slot s u v i) ≡ Some n → u.done n ≡ false → StoredAlike r w s u v i x

-- each slot of the put's partition holds the put in both or in neither, and so does its mirror
abbrev pub PutAlike : RingValue → List Planned → TheWorld → RingValue → List Planned → TheWorld → ℕ → Type 0
PutAlike r old w s new u v = (i : ℕ) → i < s.n → HeldAlike r old w s new u v i × MirroredAlike r old w s new u v i

-- both have the same owners, as many puts, and the same mirrors but for undone ones. Each slot holds the same
-- puts in both, and so does each mirror, but for those that stay
pub record AreAlike (back : Back) (left : List Slot) (r : RingValue) (old : List Planned) (w : TheWorld) (s : RingValue) (new : List Planned) (u : TheWorld) : Type 0 where
  pub nodes : (p : ℕ) → p < s.q → (i : ℕ) → i < s.n → NodesAlike back left r old w s new u (slot_at p i)
  pub puts : length u.puts ≡ length w.puts
  pub each : (v : ℕ) → v < length u.puts → PutAlike r old w s new u v

-- two histories, each a run of its plan, lead to such worlds
abbrev pub LeadAlike : Back → List Slot → RingValue → List Planned → List Planned → List Entry → List Entry → Type 0
LeadAlike back left ring old new earlier later = ∥ ((w u : TheWorld) × IsRun ring old earlier w × IsRun ring new later u × AreAlike back left ring old w ring new u) ∥₁

-- ---- two stores

-- this holds of each world that the first may be in, and each that the second may be in
abbrev pub InBoth : World → World → (RingValue → List Planned → TheWorld → RingValue → List Planned → TheWorld → Type 0) → Type 0
InBoth a b Holds = (w u : TheWorld) → Meets a w → Meets b u → Holds (ring_of a) (plan_of a) w (ring_of b) (plan_of b) u

-- each put that is marked is alike in both
abbrev pub AreAlikeIn : World → World → List Bool → Type 0
AreAlikeIn a b marks = (v : ℕ) → is_flagged marks v ≡ true → InBoth a b (λ r old w s new u. PutAlike r old w s new u v)

-- each slot of the set is one of these
abbrev pub AreNamed : SlotSet → List Slot → Type 0
AreNamed set left = (s : Slot) → is_in set s ≡ true → list_any (λ t. is_slot t s) left ≡ true
