-- Why a history is not a run of a plan.
use Rattle.std.specs.Prelude.{◌≡◌, ◌≢◌, ◌⊎◌, ℕ, ◌+◌, List, [], ◌∷◌, Ok, Err}
use Rattle.ring_names.specs.declared.refusal.Refusal.{Refusal}
use Rattle.ring_names.specs.declared.refusal.Refusal.TheVariants.{Mismatch}
use Rattle.ring_names.specs.Refusals.{number_of}
use Rattle.ring_table.specs.Value.{RingValue}
use Rattle.plan_text.specs.declared.step.Planned.{Planned}
use Rattle.plan_runs.specs.declared.event.Entry.{Entry}
use Rattle.plan_runs.specs.declared.event.Reply.{Reply}
use Rattle.plan_runs.specs.Answers.{answer}
use Rattle.plan_runs.specs.World.{World}

-- the entry fails at place k: its event is refused, or answered otherwise
abbrev pub FailsAt : RingValue → List Planned → World → ℕ → Entry → Refusal → Type 0
FailsAt ring plan w k x e =
    ((r : Refusal) × (answer ring plan w x.event ≡ Err r) × (e ≡ Mismatch k (number_of r)))
    ⊎ ((u : World) × (r : Reply) × (answer ring plan w x.event ≡ Ok (u, r)) × (r ≢ x.reply) × (e ≡ Mismatch k 0))

-- the first entry that fails, of those from place k on, fails so
abbrev pub IsFirstFault : RingValue → List Planned → World → ℕ → List Entry → Refusal → Type 0
IsFirstFault ring plan w k [] e = ⊥
IsFirstFault ring plan w k (x ∷ xs) e = FailsAt ring plan w k x e
    ⊎ ((u : World) × (answer ring plan w x.event ≡ Ok (u, x.reply)) × IsFirstFault ring plan u (k + 1) xs e)
