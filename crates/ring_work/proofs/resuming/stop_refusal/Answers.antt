-- A first fault is told as it is, and is not a limit of turns.
use Rattle.std.proofs.Common.{◌≡◌, ◌≢◌, ℕ, arith}
use Rattle.ring_names.specs.declared.refusal.Refusal.{Refusal}
use Rattle.ring_names.specs.declared.refusal.Refusal.TheVariants.{HistoryFull, OutOfMemory, TurnsSpent, Mismatch}
use Rattle.plan_runs.specs.World.{opening_world}
use Rattle.ring_exec.proofs.FirstFault.{fault_mismatch, fault_once}
use Rattle.ring_work.proofs.resuming.stop_refusal.Goals as goal

turns_not_full : (e : Refusal) → e ≡ TurnsSpent → e ≢ HistoryFull
turns_not_full e spent full = absurd cc

turns_not_memory : (e : Refusal) → e ≡ TurnsSpent → e ≢ OutOfMemory
turns_not_memory e spent memory = absurd cc

turns_not_mismatch : (e : Refusal) (m n : ℕ) → e ≡ TurnsSpent → e ≡ Mismatch m n → ⊥
turns_not_mismatch e m n spent is = absurd cc

pub returns-clause-spent : goal.returns-clause-spent
returns-clause-spent c = λ spent. (
    let e = c.args.refusal in
    let fault = c.requires.err (turns_not_full e spent) (turns_not_memory e spent) in
    let is = fault_mismatch c.args.approved.now.ring c.args.approved.now.plan (opening_world c.args.approved.now.ring) 0 c.args.entries.now e fault in
    turns_not_mismatch e is.0 is.1 spent is.2)

pub returns-clause-fault : goal.returns-clause-fault
returns-clause-fault c = λ x few first other. (
    let a = c.args.approved.now in
    let full : c.args.refusal ≢ HistoryFull = λ is. (let many = c.requires.full.0 is in absurd (omega arith)) in
    fault_once a.ring a.plan (opening_world a.ring) 0 c.args.entries.now c.args.refusal x (c.requires.err full other) first)
