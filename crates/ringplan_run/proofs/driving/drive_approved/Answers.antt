use Rattle.std.proofs.Common.{◌≡◌, ℕ, List, Result, Ok, Err, Vec, Global}
use Rattle.std.specs.Prelude.{IfOk, IfErr}
use Rattle.ring_names.specs.declared.refusal.Refusal.{Refusal}
use Rattle.ring_table.specs.Value.{RingValue}
use Rattle.plan_text.specs.declared.step.Planned.{Planned}
use Rattle.plan_runs.specs.declared.event.Entry.{Entry}
use Rattle.plan_runs.specs.declared.event.Event.{Event}
use Rattle.ring_board.specs.declared.receipt.Receipt.{Receipt}
use Rattle.ring_work.specs.Driven.{Driven, IsFault}
use Rattle.ringplan_command.specs.declared.form.Form.{Form}
use Rattle.ringplan_answers.specs.Answers.{texts_of}
use Rattle.ringplan_run.specs.Drives.{IsOutcome, outcome_text}
use Rattle.ringplan_run.proofs.driving.drive_approved.Goals as goal

is_outcome : (ring : RingValue) (plan : List Planned) (names : List (List ℕ)) (scripts : List (List Event)) (workers : ℕ) (form : Form) (history : List Entry) (lists : List (List Receipt)) (finishers : List ℕ) (r : Result (Vec ℕ Global) Refusal)
    → Driven ring plan scripts workers history lists finishers → IfOk r (λ v. v.items ≡ outcome_text ring names history finishers workers form) → IfErr r IsFault → IsOutcome ring plan names scripts workers form (texts_of r)
is_outcome ring plan names scripts workers form history lists finishers (Ok v) driven text fault = (history, lists, finishers, driven, text)
is_outcome ring plan names scripts workers form history lists finishers (Err e) driven text fault = fault

pub returns-in-Ok : goal.returns-in-Ok
returns-in-Ok g c = is_outcome _ _ _ _ _ _ _ _ _ c.write_outcome-text.result c.in-Ok.ensures.ok c.write_outcome-text.ensures.text c.write_outcome-text.ensures.err
