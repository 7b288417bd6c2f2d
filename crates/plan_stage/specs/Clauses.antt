-- The clauses that the steps of a slot must meet, each with its refusal, in the order in which they are tested.
use Rattle.std.specs.Prelude.{◌≡◌, ℕ, suc, zero, ◌<◌, Bool, true, List, []}
use Rattle.std.specs.Prelude.{◌∷◌, ◌++◌, Option, Some, None, Result, MatchResult, length, slice_index, if◌then◌else◌}
use Rattle.ring_names.specs.declared.ids.Slot.{Slot}
use Rattle.ring_names.specs.declared.refusal.Refusal.{Refusal}
use Rattle.ring_names.specs.declared.refusal.Refusal.TheVariants.{OutOfMemory}
use Rattle.ring_table.specs.Value.{RingValue}
use Rattle.plan_text.specs.declared.step.Planned.{Planned}
use Rattle.plan_text.specs.Steps.{steps_of}
use Rattle.plan_stage.specs.declared.stage.Stage.{Stage}
use Rattle.plan_stage.specs.Stage.{stage, fits_at}

-- a test, and the refusal where it fails
abbrev pub Guard : Type 0
Guard = Bool × Refusal

-- the refusal of the first test that fails
abbrev pub first_failing : List (Bool × Refusal) → Option Refusal
first_failing [] = None
first_failing (c ∷ cs) = if c.0 then first_failing cs else Some c.1

-- the clauses of 0, those of 1, and so on below n
unfoldable pub below : (ℕ → List (Bool × Refusal)) → ℕ → List (Bool × Refusal)
below clauses zero = []
below clauses (suc n) = below clauses n ++ clauses n

-- the k-th of the slot's steps may act in the stage
abbrev pub is_staged : List Planned → Stage → List ℕ → ℕ → Bool
is_staged plan a numbers k = fits_at plan a (slice_index numbers k)

-- the result is `Ok` if no test fails, and otherwise the first refusal; but memory may be refused
abbrev pub Gives : Result (Unit {0}) Refusal → List (Bool × Refusal) → Type 0
Gives r clauses = MatchResult r (λ _. first_failing clauses ≡ None) (λ e. (e ≡ OutOfMemory → ⊥) → first_failing clauses ≡ Some e)

-- each step of the slot fits the stage after the slot's steps before it
abbrev pub IsStagedSlot : RingValue → List Planned → Slot → Type 0
IsStagedSlot ring plan slot = (k : ℕ) → k < length (steps_of plan slot) → is_staged plan (stage ring plan slot k) (steps_of plan slot) k ≡ true

-- so does each step of each slot of the partition
abbrev pub IsStagedIn : RingValue → List Planned → ℕ → Type 0
IsStagedIn ring plan p = (i : ℕ) → i < ring.n → IsStagedSlot ring plan (record { partition = p; index = i })

-- each step of each of the ring's slots fits the stage after the slot's steps before it
abbrev pub AllStaged : RingValue → List Planned → Type 0
AllStaged ring plan = (slot : Slot) → slot.partition < ring.q → slot.index < ring.n → IsStagedSlot ring plan slot
