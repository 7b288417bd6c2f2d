-- What is said of a bundle's verdict.
use Rattle.std.specs.Prelude.{◌≡◌, ℕ, List, [], ◌++◌, Result, Ok, Err}
use Rattle.ring_names.specs.declared.refusal.Refusal.{Refusal}
use Rattle.texts.specs.Left.{whole_text}
use Rattle.ring_table.specs.Value.{RingValue}
use Rattle.plan_text.specs.declared.step.Planned.{Planned}
use Rattle.plan_check.specs.Headline.{KeepsPromises}
use Rattle.ring_script.specs.Bundles.{bundle_at}
use Rattle.ring_script.specs.declared.bundle.Bundle.{Bundle}
use Rattle.ring_script.specs.declared.bundle.Kind.TheVariants as kind
use Rattle.ringplan_answers.specs.Answers.{output_of, status_of}
use Rattle.ringplan_answers.specs.Verdict.{MakesIf}
use Rattle.ringplan_request.specs.declared.job.Job.TheVariants.{Check}
use Rattle.ringplan_reports.specs.Kept.{SaysKept}
use Rattle.ringplan_reports.specs.Studies.{IsStudyOf}

-- the text begins with what was found and these lines, and the status is that of what was found
abbrev pub BeginsWith : Result (List ℕ) Refusal → List ℕ → List ℕ → ℕ → Type 0
BeginsWith found lines text status = (words : List ℕ) × (text ≡ output_of found ++ lines ++ words) × (status ≡ status_of found)

-- the lines after what was found of a bundle: none after a yes, and after a refusal which promises the plan keeps
abbrev pub AddsKept : Bundle → Result (List ℕ) Refusal → List ℕ → Type 0
AddsKept b (Ok text) lines = lines ≡ []
AddsKept b (Err refusal) lines = SaysKept b.ring b.plan b.cert lines

-- the text begins with what a check of the bytes prints and these lines, and the status is that of the check
abbrev pub AnswersCheck : List ℕ → Bundle → List ℕ → ℕ → Type 0
AnswersCheck bytes b text status = (found : Result (List ℕ) Refusal) × (lines : List ℕ) × MakesIf Check bytes found × AddsKept b found lines × BeginsWith found lines text status

-- the bundle's plan keeps its promises
abbrev pub HasKept : List ℕ → Type 0
HasKept bytes = (ring : RingValue) × (plan : List Planned) × IsStudyOf bytes ring plan × KeepsPromises ring plan

-- what is said of a bundle, and why. Status 0 comes only if its plan keeps its promises. For the texts of a
-- ring, a plan and a certificate it begins as a check does, with that status. After a refusal it says which
-- promises the plan keeps
pub record IsWhy (bytes text : List ℕ) (status : ℕ) : Type 0 where
  pub yes : status ≡ 0 → HasKept bytes
  pub check : (b : Bundle) → whole_text (bundle_at kind.Check) bytes ≡ Ok b → AnswersCheck bytes b text status
