-- What is promised of a store at every moment.
use Rattle.std.specs.Prelude.{◌≡◌, ◌≢◌, ℕ, ◌<◌, ◌≤◌, Bool, true, false, ◌&&◌, ◌||◌, ◌==◌, nat_lt, List, length, Some, None}
use Rattle.std.specs.List.{list_all, list_any}
use Rattle.ring_names.specs.Lists.{has, all_different}
use Rattle.ring_names.specs.declared.ids.Slot.{Slot}
use Rattle.ring_table.specs.declared.allowance.Side.{Side}
use Rattle.ring_table.specs.declared.allowance.Side.TheVariants.{Both, Take, Give}
use Rattle.ring_table.specs.Value.{RingValue, allowance_of}
use Rattle.plan_text.specs.declared.step.Source.{Source}
use Rattle.plan_text.specs.declared.step.Planned.{Planned}
use Rattle.plan_stage.specs.Parties.{source_slots}
use Rattle.plan_runs.specs.World.{World, passing_below, is_acked, copy_at, slot_at, stage_now, is_member_now, mirrors, is_served, is_in_group}
use Rattle.plan_runs.specs.Versions.{put_slot, IsHeld}

-- of any R different slots of its key's partition one holds the put
abbrev pub MeetsEveryRead : RingValue → List Planned → World → ℕ → Type 0
MeetsEveryRead ring plan w v = (slots : List ℕ) → all_different slots ≡ true → list_all (λ i. nat_lt i ring.n) slots ≡ true
    → length slots ≡ ring.r → (i : ℕ) × (has i slots ≡ true) × IsHeld ring plan w v (put_slot ring w v i)

-- two slots of a partition share no node
abbrev pub GroupsAreApart : RingValue → List Planned → World → Type 0
GroupsAreApart ring plan w = (p i j x : ℕ) → p < ring.q → i < ring.n → j < ring.n → i ≢ j
    → is_in_group ring plan w (slot_at p i) x ≡ true → is_in_group ring plan w (slot_at p j) x ≡ true → ⊥

-- the node mirrors the slot that is copied, now
abbrev pub mirrors_now : RingValue → List Planned → World → ℕ → Slot → Source → Bool
mirrors_now ring plan w x slot from = mirrors (stage_now ring plan w slot) x

-- the node owns a slot from which the copy reads, now
abbrev pub gives_now : RingValue → List Planned → World → ℕ → Slot → Source → Bool
gives_now ring plan w x slot from = list_any (λ t. x == (stage_now ring plan w t).owner.0) (source_slots slot from)

-- the node takes part in the copy on that side, now: on both if it does either
abbrev pub takes_part_now : RingValue → List Planned → World → ℕ → Side → Slot → Source → Bool
takes_part_now ring plan w x Both slot from = mirrors_now ring plan w x slot from || gives_now ring plan w x slot from
takes_part_now ring plan w x Take slot from = mirrors_now ring plan w x slot from
takes_part_now ring plan w x Give slot from = gives_now ring plan w x slot from

-- step n is an open copy that passes the test
abbrev pub is_open_copy : List Planned → World → (Slot → Source → Bool) → ℕ → Bool
is_open_copy plan w test n = w.is_open n && elim (copy_at plan n) [ Some k ↦ test k.0 k.1 | None ↦ false ]

-- how many open copies pass the test
abbrev pub open_copies : List Planned → World → (Slot → Source → Bool) → ℕ
open_copies plan w test = length (passing_below (length plan) (is_open_copy plan w test))

-- no node takes part in more open copies than its allowance, on any side that this counts
abbrev pub TransfersAreFew : RingValue → List Planned → World → Type 0
TransfersAreFew ring plan w = (x : ℕ) (side : Side) (a : ℕ) → allowance_of ring x side ≡ Some a → open_copies plan w (takes_part_now ring plan w x side) ≤ a

-- each slot's owner and mirror are members
abbrev pub ServersAreMembers : RingValue → List Planned → World → Type 0
ServersAreMembers ring plan w = (p i x : ℕ) → p < ring.q → i < ring.n → is_served (stage_now ring plan w (slot_at p i)) x ≡ true
    → is_member_now ring plan w x ≡ true

-- what is promised
pub record Safe (ring : RingValue) (plan : List Planned) (w : World) : Type 0 where
  pub held : (v : ℕ) → is_acked w v ≡ true → MeetsEveryRead ring plan w v
  pub apart : GroupsAreApart ring plan w
  pub few : TransfersAreFew ring plan w
  pub members : ServersAreMembers ring plan w
