-- A ring and a plan together, once the checker has said yes.
use Rattle.std.specs.Prelude.{List}
use Rattle.ring_table.specs.Value.{RingValue}
use Rattle.plan_text.specs.declared.step.Planned.{Planned}
use Rattle.plan_check.specs.Sound.{Sound}
use Rattle.plan_check.specs.Headline.{KeepsPromises}

-- the two
pub record Approval : Type 0 where
  pub ring : RingValue
  pub plan : List Planned

-- what holds of them
pub record IsApproved (ring : RingValue) (plan : List Planned) : Type 0 where
  -- the plan is sound, and so it suits the ring
  pub sound : Sound ring plan
  -- the headline: at every moment of every run the store is safe, and gets see the puts that were acknowledged before they started
  pub keeps : KeepsPromises ring plan
