-- What a call from C answers.
use Rattle.std.specs.Prelude.{◌≡◌, ◌⊎◌, ℕ, List, Result, Err}
use Rattle.ring_names.specs.declared.refusal.Refusal.{Refusal}
use Rattle.ring_names.specs.declared.refusal.Refusal.TheVariants.{OutOfMemory}
use Rattle.ringplan_c.specs.Room.{Fills}
use Rattle.ringplan_answers.specs.Answers.{output_of, status_of}
use Rattle.ringplan_answers.specs.Outcomes.{Outcome}
use Rattle.ringplan_request.specs.declared.job.Job.{Job}

-- what the program makes of an input, or out of memory
abbrev pub Comes : Job → List ℕ → Result (List ℕ) Refusal → Type 0
Comes job bytes r = Outcome job bytes r ⊎ (r ≡ Err OutOfMemory)

-- the room is filled with what the program prints where that comes of its input, by the status with which the program ends
abbrev pub Replies : Job → List ℕ → List ℕ → List ℕ → ℕ → ℕ → Type 0
Replies job bytes old new told result = (r : Result (List ℕ) Refusal)
    × Comes job bytes r × Fills (output_of r) (status_of r) old new told result
