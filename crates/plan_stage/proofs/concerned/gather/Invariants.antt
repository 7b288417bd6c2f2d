use Rattle.std.proofs.Common.{◌≡◌, true, ℕ, ◌<◌}
use Rattle.plan_stage.specs.Looking.Gathered.{are_steps, HasSlot}
use Rattle.plan_stage.proofs.concerned.gather.Given as goal

-- the slots in front have what belongs to them
pub record Front (l : goal.Live-slots) : Type 0 where
  pub within : are_steps l.plan l.numbers.items ≡ true
  pub slots : (i : ℕ) → i < l.index → HasSlot l.ring l.plan (record { partition = l.partition; index = i }) l.numbers.items

abbrev pub invariant-slots : goal.invariant-slots
invariant-slots l = Front l
