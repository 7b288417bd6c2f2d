-- What is made of a bundle.
use Rattle.std.specs.Prelude.{◌≡◌, ◌≢◌, ◌≤◌, ◌⊎◌, ℕ, List, [], ◌++◌, ⊤}
use Rattle.ring_names.specs.declared.refusal.Refusal.{Refusal}
use Rattle.ring_names.specs.Refusals.{line_of, number_of}
use Rattle.ring_table.specs.Value.{RingValue}
use Rattle.plan_text.specs.declared.step.Planned.{Planned}
use Rattle.plan_check.specs.Approval.{IsApproved}
use Rattle.plan_goal.specs.declared.proposed.Proposed.{Proposed}
use Rattle.plan_goal.specs.Proposals.{front_text}
use Rattle.plan_moves.specs.Lines.{steps_text}
use Rattle.plan_moves.specs.MoveLines.{moves_text}
use Rattle.ringplan_answers.specs.Answers.{refused_status}
use Rattle.ringplan_request.specs.declared.making.Exit.TheVariants as exit
use Rattle.ringplan_request.specs.declared.making.Making.{Making}
use Rattle.change_text.specs.declared.options.Options.{Options}
use Rattle.ringplan_request.specs.declared.making.Making.TheVariants.{Why, Cert, After, Show, Draw, Steps, Moves, Windows, Goal, Around, State}
use Rattle.ringplan_request.specs.declared.making.Color.{Color}
use Rattle.ringplan_request.specs.declared.making.Statement.{Statement}
use Rattle.ringplan_request.specs.declared.making.Statement.TheVariants as statements
use Rattle.plan_goal.specs.Certs.{IsCertifiedText}
use Rattle.plan_goal.specs.GoalsReached.{IsLed, IsLedText, IsWishReached}
use Rattle.plan_goal.specs.Windows.{AreAskedOf}
use Rattle.plan_around.specs.Around.{IsAround}
use Rattle.ringplan_reports.specs.Studies.{IsStudyOf, HasApproved, IsShown, IsLeftBy, IsLeftNow}
use Rattle.ringplan_reports.specs.Why.{HasKept, IsWhy}

-- the text has the bytes' ring, a plan that leads to the ring that their change wishes for, by some options,
-- and its certificate
abbrev pub IsBundleOf : List ℕ → List ℕ → Type 0
IsBundleOf bytes text = (options : Options) × (p : Proposed) × IsWishReached bytes options p × (text ≡ front_text p.approved.ring p.approved.plan p.cert)

-- the text has a certificate for the ring and the plan with which the bytes begin, or for the bundle made of
-- their change
abbrev pub IsCertOf : List ℕ → List ℕ → Type 0
IsCertOf bytes text = IsCertifiedText bytes text ⊎ ((whole : List ℕ) × IsBundleOf bytes whole × IsCertifiedText whole text)

-- this holds of the bundle's plan, which the checker accepted
abbrev pub OfPlan : (RingValue → List Planned → Type 0) → List ℕ → Type 0
OfPlan claim bytes = (ring : RingValue) × (plan : List Planned) × IsStudyOf bytes ring plan × IsApproved ring plan × claim ring plan

-- the text is what is asked for of the bytes, by these options. For a summary and a picture only the plan is
-- promised, or for a summary that the bytes are a ring's
abbrev pub IsMade : Making → Options → List ℕ → List ℕ → Type 0
IsMade Cert options bytes text = IsCertOf bytes text
IsMade After options bytes text = IsLeftNow bytes text ⊎ IsLeftBy bytes text
IsMade (Show wish) options bytes text = IsShown bytes
IsMade (Draw shown) options bytes text = HasApproved bytes
IsMade Steps options bytes text = OfPlan (λ ring plan. text ≡ steps_text ring plan) bytes
IsMade Moves options bytes text = OfPlan (λ ring plan. text ≡ moves_text ring plan) bytes
IsMade (Windows cut) options bytes text = OfPlan (λ ring plan. AreAskedOf ring plan cut.only text) bytes
IsMade (Goal status) options bytes text = IsLedText bytes options text
IsMade (Around detour) options bytes text = IsAround bytes options detour text
IsMade (Why color) options bytes text = ⊥
IsMade (State statement) options bytes text = ⊥

-- what is made prints its refusals on standard error
abbrev pub IsTold : Making → Type 0
IsTold (Why color) = ⊥
IsTold (State statement) = ⊥
IsTold making = ⊤

-- the status of a statement. For why, 0 comes only if the bundle's plan keeps its promises. For a plan or a
-- ring that is shown, 0 comes only if it is what is shown. For a goal, 0 and 4 come only if a plan leads there,
-- and 4 only if it asks whether the plan has steps
abbrev pub IsStated : Statement → Options → List ℕ → ℕ → Type 0
IsStated statements.Why options bytes status = (status ≡ 0 → HasKept bytes) × (status ≤ 3)
IsStated (statements.Show wish) options bytes status = (status ≡ 0 → IsShown bytes) × (status ≤ 3)
IsStated (statements.Goal how) options bytes status = (((status ≡ 0) ⊎ ((status ≡ 4) × (how ≡ exit.Steps))) × ((p : Proposed) × IsLed bytes options p))
    ⊎ ((status ≢ 0) × (status ≤ 3))

-- the status at what was made: 0, or 4 if a goal asks it to say whether the plan has steps
abbrev pub IsMadeWith : Making → ℕ → Type 0
IsMadeWith making status = (status ≡ 0) ⊎ ((status ≡ 4) × (making ≡ Goal exit.Steps))

-- what is printed of the bytes, and the status: why they are refused, or what a yes says. Otherwise what is
-- made of them, or nothing if they are refused
pub data IsReport (making : Making) (options : Options) (bytes : List ℕ) (text : List ℕ) (status : ℕ) : Type 0 where
  told : (color : Color) → making ≡ Why color → IsWhy bytes text status → status ≤ 3 → IsReport making options bytes text status
  stated : (statement : Statement) → making ≡ State statement → IsStated statement options bytes status → IsReport making options bytes text status
  made : IsMade making options bytes text → IsMadeWith making status → IsReport making options bytes text status
  refused : IsTold making → text ≡ [] → status ≢ 0 → status ≤ 3 → IsReport making options bytes text status

-- nothing is printed, and on standard error the refusal's line and some words, with the status of the refusal
abbrev pub IsRefusal : Refusal → List ℕ → List ℕ → ℕ → Type 0
IsRefusal refusal text errors status = (text ≡ []) × ((words : List ℕ) × (errors ≡ line_of refusal ++ words)) × (status ≡ refused_status (number_of refusal))
