-- What comes of an input.
use Rattle.std.specs.Prelude.{◌≡◌, ◌≢◌, ◌⊎◌, ℕ, ◌<◌, ◌≤◌, List, Result, Ok, Err, length}
use Rattle.ring_names.specs.declared.refusal.Refusal.{Refusal}
use Rattle.ring_names.specs.declared.refusal.Refusal.TheVariants.{TooLarge, OutOfMemory, ReadFailed}
use Rattle.ringplan_answers.specs.Io.{max_input}
use Rattle.ringplan_answers.specs.Verdict.{Makes}
use Rattle.ringplan_request.specs.declared.job.Job.{Job}

-- what comes of an input: what the job makes of it, or `TooLarge` if there are too many bytes
abbrev pub Outcome : Job → List ℕ → Result (List ℕ) Refusal → Type 0
Outcome job bytes r = ((length bytes ≤ max_input) × Makes job bytes r) ⊎ ((max_input < length bytes) × (r ≡ Err (TooLarge 0)))

-- what was found is what comes of the input, if memory was there and no read failed
abbrev pub Finds : Job → List ℕ → Result (List ℕ) Refusal → Type 0
Finds job bytes (Ok text) = Outcome job bytes (Ok text)
Finds job bytes (Err e) = e ≢ OutOfMemory → e ≢ ReadFailed → Outcome job bytes (Err e)
