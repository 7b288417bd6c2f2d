-- Plans that are a plan in windows.
use Rattle.std.specs.Prelude.{◌≡◌, ℕ, ◌<◌, ◌==◌, nat_le, true, List, [], Option, Some, None, filter, get_or, length, map, option_and_then, slice_get, unwrap_or}
use Rattle.std.specs.List.{list_all}
use Rattle.plan_text.specs.declared.step.Planned.{Planned}
use Rattle.history_laws.specs.Past.{AreSame}
use Rattle.plan_goal.specs.declared.pieces.Place.{Place}

-- the plan of window k
abbrev pub plan_at : List (List Planned) → ℕ → List Planned
plan_at plans k = unwrap_or (slice_get plans k) []

-- the direct dependencies of step n
abbrev pub waits_of : List Planned → ℕ → List ℕ
waits_of plan n = elim (slice_get plan n) [ Some x ↦ x.after | None ↦ [] ]

-- those of these steps that are in window k, by their numbers there; `window` and `number` say where each step of the plan is
abbrev pub waits_in : (ℕ → ℕ) → (ℕ → ℕ) → ℕ → List ℕ → List ℕ
waits_in window number k steps = map number (filter (λ d. window d == k) steps)

-- step n of the plan is a step of its window. There it waits for its dependencies in this window, and all
-- others are in windows before
pub record IsPlaced (plan : List Planned) (plans : List (List Planned)) (window number : ℕ → ℕ) (n : ℕ) : Type 0 where
  pub same : AreSame plan (plan_at plans (window n)) n (number n)
  pub waits : waits_of (plan_at plans (window n)) (number n) ≡ waits_in window number (window n) (waits_of plan n)
  pub before : list_all (λ d. nat_le (window d) (window n)) (waits_of plan n) ≡ true

-- step i of window k is a step of the plan
abbrev pub IsOfPlan : List Planned → (ℕ → ℕ) → (ℕ → ℕ) → ℕ → ℕ → Type 0
IsOfPlan plan window number k i = (n : ℕ) × (n < length plan) × (window n ≡ k) × (number n ≡ i)

-- the plans have the steps of the plan, each of them once
pub record IsCut (plan : List Planned) (plans : List (List Planned)) : Type 0 where
  pub window : ℕ → ℕ
  pub number : ℕ → ℕ
  pub placed : (n : ℕ) → n < length plan → IsPlaced plan plans window number n
  pub once : (m n : ℕ) → m < length plan → n < length plan → window m ≡ window n → number m ≡ number n → m ≡ n
  pub all : (k i : ℕ) → i < length (plan_at plans k) → IsOfPlan plan window number k i

-- ---- by a list

-- where step n is by this list
abbrev pub place_of : List Place → ℕ → Place
place_of places n = get_or places n (record { window = 0; number = 0 })

abbrev pub window_by : List Place → ℕ → ℕ
window_by places n = (place_of places n).window

abbrev pub number_by : List Place → ℕ → ℕ
number_by places n = (place_of places n).number

-- which step of the plan is at that place by these lists, one for each window
abbrev pub step_by : List (List ℕ) → Place → Option ℕ
step_by steps x = option_and_then (λ ns. slice_get ns x.number) (slice_get steps x.window)
