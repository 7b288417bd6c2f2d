use Rattle.std.proofs.Common.{◌≡◌, true, Some, length}
use Rattle.ring_names.specs.declared.ids.NodeId.{NodeId}
use Rattle.ring_table.specs.Value.{owner_of}
use Rattle.plan_text.specs.Steps.{steps_of}
use Rattle.plan_stage.specs.Looking.Gathered.{are_steps, Grows, HasRetirement}
use Rattle.plan_stage.proofs.Gathering.{TakenOr}
use Rattle.plan_stage.proofs.concerned.add_slot.Given as goal

-- the steps that are left, and what the set has of the others
pub record Left (l : goal.Live-steps) : Type 0 where
  pub within : are_steps l.plan l.rest ≡ true
  pub grows : Grows l.plan l.fn.numbers.items l.numbers.items
  pub owner : (x : NodeId) → owner_of l.ring l.fn.slot ≡ Some x → HasRetirement l.plan x l.numbers.items
  pub taken : TakenOr l.plan (steps_of l.plan l.fn.slot) l.rest l.numbers.items

abbrev pub invariant-steps : goal.invariant-steps
invariant-steps l = Left l

abbrev pub decreases-steps : goal.decreases-steps
decreases-steps l = length l.rest
