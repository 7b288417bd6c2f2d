-- What a yes says, and a status.
use Rattle.std.proofs.Common.{◌≡◌, ◌≢◌, ◌≤◌, ℕ, arith, Bool, true, false, List, [], ◌∷◌, ◌++◌, codes, Some, None, Result, Ok, Err, refl, sym, ◌∙◌, subst, if◌then◌else◌}
use Rattle.ring_names.specs.declared.refusal.Refusal.{Refusal}
use Rattle.ring_names.specs.declared.refusal.Refusal.TheVariants.{OutOfMemory}
use Rattle.texts.specs.Left.{whole_text}
use Rattle.plan_check.specs.First.{first_refusal}
use Rattle.plan_check.specs.Headline.{KeepsPromises}
use Rattle.ring_script.specs.Bundles.{bundle_at}
use Rattle.ring_script.specs.declared.bundle.Bundle.{Bundle}
use Rattle.ring_script.specs.declared.bundle.Kind.TheVariants as kind
use Rattle.ringplan_request.specs.declared.job.Job.TheVariants.{Check}
use Rattle.ringplan_answers.specs.Answers.{status_of}
use Rattle.ringplan_answers.specs.Verdict.{MakesIf}
use Rattle.ringplan_answers.proofs.Verdicts.{verdict-good}
use Rattle.ringplan_reports.specs.Studies.{HasApproved, of_plan, unbegun}
use Rattle.ringplan_reports.specs.Why.{AnswersCheck, HasKept}

not_zero : (a b : Bool) → ◌≡◌ {A = ℕ} (if a then 2 else (if b then 3 else 1)) 0 → ⊥
not_zero true b e = omega arith
not_zero false true e = omega arith
not_zero false false e = omega arith

-- what a check makes of texts that were read: yes if the checker accepts the plan, otherwise its first refusal
pub check_yes : (bytes : List ℕ) (b : Bundle) → whole_text (bundle_at kind.Check) bytes ≡ Ok b → first_refusal b.ring b.plan b.cert ≡ None → KeepsPromises b.ring b.plan
    → MakesIf Check bytes (Ok (codes "yes" ++ 10 ∷ []))
check_yes bytes b read none keeps = (rw (verdict-good bytes b read, none) refl, (b, read, keeps))

pub check_no : (bytes : List ℕ) (b : Bundle) (e : Refusal) → whole_text (bundle_at kind.Check) bytes ≡ Ok b → (e ≢ OutOfMemory → first_refusal b.ring b.plan b.cert ≡ Some e) → MakesIf Check bytes (Err e)
check_no bytes b e read is other = (rw (verdict-good bytes b read, is other) refl, tt)

-- a status 0 of a check comes with promises that are kept
pub yes_of_check : (bytes : List ℕ) (b : Bundle) (text : List ℕ) (status : ℕ) → AnswersCheck bytes b text status → status ≡ 0 → HasKept bytes
yes_of_check bytes b text status (Ok found, lines, makes, adds, begins) zero =
    let b = makes.1.0 in
    (b.ring, b.plan, unbegun (of_plan b makes.1.1 refl refl), makes.1.2)
yes_of_check bytes b text status (Err e, lines, makes, adds, begins) zero = absurd (not_zero _ _ (sym begins.2 ∙ zero))

-- an approved plan keeps its promises
pub yes_of_study : (bytes : List ℕ) → HasApproved bytes → HasKept bytes
yes_of_study bytes (ring, plan, of, approved) = (ring, plan, of, approved.keeps)

few : (a b : Bool) → (if a then 2 else (if b then 3 else 1)) ≤ 3
few true b = omega arith
few false true = omega arith
few false false = omega arith

-- what was found has a status up to 3
status_few : (r : Result (List ℕ) Refusal) → status_of r ≤ 3
status_few (Ok text) = omega arith
status_few (Err e) = few _ _

-- and so has a check, with words behind its line
pub few_of_check : (bytes : List ℕ) (b : Bundle) (text : List ℕ) (status : ℕ) → AnswersCheck bytes b text status → status ≤ 3
few_of_check bytes b text status (found, lines, makes, adds, begins) = subst (λ (s : ℕ). s ≤ 3) (sym begins.2) (status_few found)
