-- Which clauses of a partition hold, where those of some kinds may fail.
use Rattle.std.specs.Prelude.{◌≡◌, ℕ, Bool, true, false, ◌||◌, List, Some, None}
use Rattle.std.specs.List.{list_all}
use Rattle.ring_names.specs.declared.refusal.Refusal.{Refusal}
use Rattle.ring_names.specs.declared.refusal.Refusal.TheVariants.{BadSource, MovingSource, SharedInPlan, NotJoined, RetiredInUse}
use Rattle.ring_table.specs.Value.{RingValue}
use Rattle.plan_text.specs.declared.step.Step.{Step}
use Rattle.plan_text.specs.declared.step.Planned.{Planned}
use Rattle.plan_stage.specs.declared.missed.Missed.{Missed}
use Rattle.plan_stage.specs.Clauses.{Guard, first_failing, below}
use Rattle.plan_stage.specs.Each.{slot_in, step_at}
use Rattle.plan_stage.specs.Partition.{Test, slot_clauses, step_clauses}

-- whether clauses with such a refusal may fail
abbrev pub misses : Missed → Refusal → Bool
misses a (BadSource n) = a.sources
misses a (MovingSource n) = a.settled
misses a (SharedInPlan n) = a.left
misses a (NotJoined n) = a.joined
misses a (RetiredInUse n) = a.dropped
misses a r = false

-- the refusal's kind is noted, and the kind of the clause that the step has after it
abbrev pub IsNoted : Missed → Refusal → Type 0
IsNoted a (BadSource n) = (a.sources ≡ true) × (a.settled ≡ true)
IsNoted a (MovingSource n) = a.settled ≡ true
IsNoted a (SharedInPlan n) = (a.left ≡ true) × (a.joined ≡ true)
IsNoted a (NotJoined n) = a.joined ≡ true
IsNoted a (RetiredInUse n) = a.dropped ≡ true
IsNoted a r = Unit {0}

-- what is noted before is noted after
abbrev pub StaysNoted : Missed → Missed → Type 0
StaysNoted a b = (r : Refusal) → misses a r ≡ true → misses b r ≡ true

-- each clause holds, but those that may fail
abbrev pub HoldBut : Missed → List Guard → Type 0
HoldBut a clauses = list_all (λ g. g.0 || misses a g.1) clauses ≡ true

-- the steps of each slot of the partition act in order, and the clauses of each step hold, but those that may fail
pub record HoldsBut (a : Missed) (ring : RingValue) (plan : List Planned) (O : Test) (p : ℕ) : Type 0 where
  pub slots : first_failing (below (λ i. slot_clauses ring plan O (slot_in p i)) ring.n) ≡ None
  pub steps : (n : ℕ) (s : Step) → step_at plan n ≡ Some s → HoldBut a (step_clauses ring plan O p n s)
