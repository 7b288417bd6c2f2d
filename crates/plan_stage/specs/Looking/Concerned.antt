-- How the checker looks at a clause: the steps that a partition has to look at.
use Rattle.std.specs.Prelude.{◌≡◌, ℕ, Bool, true, false, ◌==◌, nat_lt, List, length, Some}
use Rattle.std.specs.List.{list_all}
use Rattle.ring_names.specs.Lists.{has}
use Rattle.ring_table.specs.Value.{RingValue}
use Rattle.plan_text.specs.declared.step.Step.{Step}
use Rattle.plan_text.specs.declared.step.Step.TheVariants.{Join, Mirror, Copy, Switch, Drop, Retire}
use Rattle.plan_text.specs.declared.step.Planned.{Planned}
use Rattle.texts.specs.Numbers.{ascending}
use Rattle.plan_stage.specs.Each.{step_at}
use Rattle.plan_stage.specs.Holdings.{is_holder}

-- a mirror or a copy in the partition, or a retirement of a node that holds one of its slots for some time
abbrev pub is_concerned : RingValue → List Planned → ℕ → Step → Bool
is_concerned ring plan p (Join x) = false
is_concerned ring plan p (Mirror slot x) = slot.partition == p
is_concerned ring plan p (Copy slot from) = slot.partition == p
is_concerned ring plan p (Switch slot) = false
is_concerned ring plan p (Drop slot x) = false
is_concerned ring plan p (Retire x) = is_holder ring plan p x

-- these numbers have all such steps, and ascend
pub record AreConcerned (ring : RingValue) (plan : List Planned) (p : ℕ) (numbers : List ℕ) : Type 0 where
  pub ascending : ascending numbers ≡ true
  pub within : list_all (λ n. nat_lt n (length plan)) numbers ≡ true
  pub all : (n : ℕ) (s : Step) → step_at plan n ≡ Some s → is_concerned ring plan p s ≡ true → has n numbers ≡ true
