-- Which plans are plans, and which of them suit a ring.
use Rattle.std.specs.Prelude.{◌≡◌, ℕ, ◌+◌, ◌≤◌, Bool, true, not, ◌&&◌, List, [], ◌∷◌, length, nat_lt}
use Rattle.std.specs.List.{list_all}
use Rattle.ring_names.specs.Lists.{all_different}
use Rattle.ring_names.specs.declared.ids.NodeId.{NodeId}
use Rattle.ring_names.specs.declared.ids.Slot.{Slot}
use Rattle.texts.specs.Numbers.{ascending}
use Rattle.ring_table.specs.Value.{RingValue, is_member}
use Rattle.plan_text.specs.declared.step.Step.{Step}
use Rattle.plan_text.specs.declared.step.Step.TheVariants.{Join, Mirror, Copy, Switch, Drop, Retire}
use Rattle.plan_text.specs.declared.step.Source.{Source}
use Rattle.plan_text.specs.declared.step.Source.TheVariants.{Owner, Slots}
use Rattle.plan_text.specs.declared.step.Planned.{Planned}
use Rattle.plan_text.specs.Steps.{dependencies, joined, retired}

-- a copy from listed slots lists 1 to 7 of them
abbrev pub HasSources : Step → Type 0
HasSources (Copy s (Slots from)) = (1 ≤ length from) × (length from ≤ 7)
HasSources (Copy s Owner) = Unit {0}
HasSources (Join x) = Unit {0}
HasSources (Mirror s x) = Unit {0}
HasSources (Switch s) = Unit {0}
HasSources (Drop s x) = Unit {0}
HasSources (Retire x) = Unit {0}

-- what a plan's step with that number may be
pub record IsPlanned (number : ℕ) (x : Planned) : Type 0 where
  pub ascending : ascending x.after ≡ true
  pub earlier : list_all (λ a. nat_lt a number) x.after ≡ true
  pub few : length x.after ≤ 4096
  pub sources : HasSources x.step

-- each step from number k on is one
abbrev pub EachPlanned : ℕ → List Planned → Type 0
EachPlanned k [] = Unit {0}
EachPlanned k (x ∷ xs) = IsPlanned k x × EachPlanned (k + 1) xs

-- what is a plan: each step may stand where it does, and the limits hold
pub record IsPlan (plan : List Planned) : Type 0 where
  pub each : EachPlanned 0 plan
  pub steps : length plan ≤ 131072
  pub dependencies : dependencies plan ≤ 524288

-- the slot is the ring's
abbrev pub is_ring_slot : RingValue → Slot → Bool
is_ring_slot ring s = nat_lt s.partition ring.q && nat_lt s.index ring.n

-- the ring declares the node
abbrev pub is_declared : RingValue → NodeId → Bool
is_declared ring x = nat_lt x.0 (length ring.nodes)

-- the listed slots are slots by index
abbrev pub source_suits : RingValue → Source → Bool
source_suits ring Owner = true
source_suits ring (Slots from) = list_all (λ i. nat_lt i ring.n) from

-- the nodes and slots of the step are the ring's, and it joins no member
abbrev pub step_suits : RingValue → Step → Bool
step_suits ring (Join x) = is_declared ring x && not (is_member ring.nodes x)
step_suits ring (Mirror s x) = is_ring_slot ring s && is_declared ring x
step_suits ring (Copy s from) = is_ring_slot ring s && source_suits ring from
step_suits ring (Switch s) = is_ring_slot ring s
step_suits ring (Drop s x) = is_ring_slot ring s && is_declared ring x
step_suits ring (Retire x) = is_declared ring x

-- the plan speaks of nodes and slots of the ring, and joins and retires no node twice
pub record Suits (ring : RingValue) (plan : List Planned) : Type 0 where
  pub steps : list_all (λ x. step_suits ring x.step) plan ≡ true
  pub joins : all_different (joined plan) ≡ true
  pub retirements : all_different (retired plan) ≡ true
