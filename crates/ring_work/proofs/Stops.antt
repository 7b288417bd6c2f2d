-- Why a drive that goes on from a history breaks off.
use Rattle.std.proofs.Common.{◌≡◌, ◌≢◌, ◌<◌, ◌≤◌, inl, inr, ℕ, List, arith}
use Rattle.std.proofs.Math.Logic.{∥∥₁_elim}
use Rattle.std.proofs.Props.{props}
use Rattle.std.specs.Prelude.{◌↔◌}
use Rattle.ring_names.specs.declared.refusal.Refusal.{Refusal}
use Rattle.ring_names.specs.declared.refusal.Refusal.TheVariants.{HistoryFull}
use Rattle.ring_table.specs.Value.{RingValue}
use Rattle.plan_text.specs.declared.step.Planned.{Planned}
use Rattle.plan_runs.specs.declared.event.Entry.{Entry}
use Rattle.plan_runs.specs.Runs.{IsRun}
use Rattle.plan_runs.specs.World.{World, opening_world}
use Rattle.ring_exec.proofs.FirstFault.{leads_without_fault}
use Rattle.ring_work.specs.Driven.{IsFault}
use Rattle.ring_work.specs.Resumed.{TellsFault}

drive_not_full : (e : Refusal) → IsFault e → e ≢ HistoryFull
drive_not_full e (inl a) full = absurd cc
drive_not_full e (inr (inl a)) full = absurd cc
drive_not_full e (inr (inr a)) full = absurd cc

-- neither is a drive's fault that of too many entries, nor are these too many
pub full_by_drive : (e : Refusal) (n : ℕ) → IsFault e → n ≤ 1000000 → (e ≡ HistoryFull) ↔ (1000000 < n)
full_by_drive e n fault few = (λ full. absurd (drive_not_full e fault full), λ many. absurd (omega arith))

-- where the entries are a run, there is no fault to tell
pub tells_of_run : (ring : RingValue) (plan : List Planned) (entries : List Entry) (e : Refusal) → ∥ ((w : World) × IsRun ring plan entries w) ∥₁ → TellsFault ring plan entries e
tells_of_run ring plan entries e run x few fault other =
    let none : ⊥ = ∥∥₁_elim run (hlevel props) (λ r. leads_without_fault ring plan (opening_world ring) r.0 0 entries x r.1 fault) in
    absurd none
