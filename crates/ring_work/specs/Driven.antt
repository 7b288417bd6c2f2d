-- What a drive promises.
use Rattle.std.specs.Prelude.{◌≡◌, ◌⊎◌, ◌+◌, ◌<◌, ◌≤◌, ℕ, List, [], ◌++◌, length, slice_index_or, Option, Some, None}
use Rattle.ring_names.specs.declared.refusal.Refusal.{Refusal}
use Rattle.ring_names.specs.declared.refusal.Refusal.TheVariants.{OutOfMemory, Disagree, TurnsSpent}
use Rattle.ring_table.specs.Value.{RingValue}
use Rattle.plan_text.specs.declared.step.Planned.{Planned}
use Rattle.plan_runs.specs.declared.event.Entry.{Entry}
use Rattle.plan_runs.specs.declared.event.Event.{Event}
use Rattle.plan_runs.specs.World.{World}
use Rattle.plan_runs.specs.Runs.{IsRun}
use Rattle.plan_check.specs.Safe.{Safe}
pub use Rattle.ring_exec.specs.Replays.{IsHistory}
use Rattle.ring_exec.specs.Tables.{AllDone}
use Rattle.ring_board.specs.declared.receipt.Receipt.{Receipt}
use Rattle.ring_board.specs.Agreed.{Agrees}

-- it is one that finishes every step
abbrev pub IsWhole : RingValue → List Planned → List Entry → Type 0
IsWhole ring plan history = ∥ ((w : World) × IsRun ring plan history w × AllDone plan w) ∥₁

-- the store is safe at every moment of the history, its beginning and its end among them
abbrev pub IsSafe : RingValue → List Planned → List Entry → Type 0
IsSafe ring plan history = (before after : List Entry) (w : World) → history ≡ before ++ after → IsRun ring plan before w → Safe ring plan w

-- A run of the plan that finishes every step and is safe at every moment, and an interleaving of its threads'
-- receipts. These are the workers' by number, the clients' by script, with a block for each line of the script,
-- and that of handoffs. The finishers are those whose lists end the steps.
pub record Driven (ring : RingValue) (plan : List Planned) (scripts : List (List Event)) (workers : ℕ) (history : List Entry) (lists : List (List Receipt)) (finishers : List ℕ) : Type 0 where
  pub run : IsWhole ring plan history
  pub safe : IsSafe ring plan history
  pub agrees : Agrees (length plan) scripts workers history lists finishers

-- why a drive breaks off: a limit of turns was spent, records disagree or the history is full, or a growth was
-- refused
abbrev pub IsFault : Refusal → Type 0
IsFault e = (e ≡ TurnsSpent) ⊎ ((e ≡ Disagree) ⊎ (e ≡ OutOfMemory))

-- a limit of turns may be spent. The plan has a step, for which a worker may wait in vain. Or the gate may
-- refuse one of the clients, which have the numbers from 64 on
abbrev pub MayStop : (ℕ → ℕ → Type 0) → List Planned → ℕ → Type 0
MayStop may_refuse plan clients = (0 < length plan) ⊎ ((client : ℕ) × (line : ℕ) × (64 ≤ client) × (client < 64 + clients) × may_refuse client line)

-- a gate must refuse the pass before some line of a script. The client asks by the line's number from 0, and
-- client s has the number 64 + s
abbrev pub MustTurn : (ℕ → ℕ → Type 0) → List (List Event) → Type 0
MustTurn must scripts = (s : ℕ) × (line : ℕ) × (s < length scripts) × (line < length (slice_index_or scripts s [])) × must (64 + s) line

-- of the passes of that worker at the marks below `marks`, there is none that a gate must refuse
abbrev pub MayPass : (ℕ → ℕ → Type 0) → ℕ → ℕ → Type 0
MayPass must worker marks = (mark : ℕ) → mark < marks → must worker mark → ⊥

-- how grave it is what a thread met. The order is nothing, out of memory, records that disagree or a full
-- history, and a limit of turns
abbrev pub gravity : Option Refusal → ℕ
gravity None = 0
gravity (Some OutOfMemory) = 1
gravity (Some TurnsSpent) = 3
gravity (Some e) = 2

-- what was met is the limit of turns
abbrev pub IsSpent : Option Refusal → Type 0
IsSpent met = met ≡ Some TurnsSpent
