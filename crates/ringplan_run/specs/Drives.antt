-- What a drive of a bundle prints.
use Rattle.std.specs.Prelude.{◌≡◌, ◌≢◌, ℕ, List, [], ◌∷◌, ◌++◌, Some, None, Result, Ok, Err, codes}
use Rattle.serde_json.specs.Written.{compact_text}
use Rattle.ring_names.specs.declared.refusal.Refusal.{Refusal}
use Rattle.ring_names.specs.declared.refusal.Refusal.TheVariants.{OutOfMemory}
use Rattle.texts.specs.Left.{whole_text}
use Rattle.ring_table.specs.Value.{RingValue}
use Rattle.plan_text.specs.declared.step.Planned.{Planned}
use Rattle.plan_runs.specs.declared.event.Entry.{Entry}
use Rattle.plan_runs.specs.declared.event.Event.{Event}
use Rattle.plan_check.specs.First.{first_refusal}
use Rattle.ring_board.specs.declared.receipt.Receipt.{Receipt}
use Rattle.ring_work.specs.Driven.{Driven, IsFault}
use Rattle.history_text.specs.Spelling.{history_text}
use Rattle.ring_work.specs.Report.{report_value}
use Rattle.ring_work.specs.Drives.{drive_at}
use Rattle.ring_work.specs.declared.bundle.DriveBundle.{DriveBundle}
use Rattle.ringplan_command.specs.declared.form.Form.{Form}
use Rattle.ringplan_command.specs.declared.form.Form.TheVariants.{History, Report}

-- the text of an outcome: `yes` and the history, or the line of the report
abbrev pub outcome_text : RingValue → List (List ℕ) → List Entry → List ℕ → ℕ → Form → List ℕ
outcome_text ring names history finishers workers History = codes "yes" ++ 10 ∷ history_text ring names history
outcome_text ring names history finishers workers Report = compact_text (report_value ring names history finishers workers) ++ 10 ∷ []

-- the text of some outcome of a drive, or why a drive broke off
abbrev pub IsOutcome : RingValue → List Planned → List (List ℕ) → List (List Event) → ℕ → Form → Result (List ℕ) Refusal → Type 0
IsOutcome ring plan names scripts workers form (Ok text) =
    (history : List Entry) × (lists : List (List Receipt)) × (finishers : List ℕ)
    × Driven ring plan scripts workers history lists finishers × (text ≡ outcome_text ring names history finishers workers form)
IsOutcome ring plan names scripts workers form (Err e) = IsFault e

-- the checker's refusal of the plan, if there is one, and otherwise that
abbrev pub IsDriveOf : ℕ → Form → DriveBundle → Result (List ℕ) Refusal → Type 0
IsDriveOf workers form b r = elim (first_refusal b.ring b.plan b.cert) [
  | Some e ↦ r ≡ Err e
  | None ↦ IsOutcome b.ring b.plan b.writers b.scripts workers form r
]

-- the first fault of what was read, if there is one, and otherwise that
abbrev pub IsDriveTo : ℕ → Form → Result DriveBundle Refusal → Result (List ℕ) Refusal → Type 0
IsDriveTo workers form (Ok b) r = IsDriveOf workers form b r
IsDriveTo workers form (Err e) r = r ≡ Err e

-- the same of a text
abbrev pub Drives : ℕ → Form → List ℕ → Result (List ℕ) Refusal → Type 0
Drives workers form bytes r = IsDriveTo workers form (whole_text drive_at bytes) r

-- the same, unless memory ran out
abbrev pub DrivesIf : ℕ → Form → List ℕ → Result (List ℕ) Refusal → Type 0
DrivesIf workers form bytes (Ok text) = Drives workers form bytes (Ok text)
DrivesIf workers form bytes (Err e) = e ≢ OutOfMemory → Drives workers form bytes (Err e)

-- the same of a bundle
abbrev pub DrivesOfIf : ℕ → Form → DriveBundle → Result (List ℕ) Refusal → Type 0
DrivesOfIf workers form b (Ok text) = IsDriveOf workers form b (Ok text)
DrivesOfIf workers form b (Err e) = e ≢ OutOfMemory → IsDriveOf workers form b (Err e)
