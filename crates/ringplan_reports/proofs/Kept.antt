-- What holds of what a call gives.
use Rattle.std.proofs.Common.{◌≡◌, ◌⊎◌, ℕ, inl, inr, ap, ◌∙◌}
use Rattle.std.specs.Prelude.{Result, Ok, Err, OnOk, IfOk}
use Rattle.ringplan_request.specs.declared.making.Exit.{Exit}
use Rattle.ringplan_request.specs.declared.making.Exit.TheVariants as exits
use Rattle.ringplan_request.specs.declared.making.Making.{Making}
use Rattle.ringplan_request.specs.declared.making.Making.TheVariants.{Goal}
use Rattle.ringplan_reports.specs.Made.{IsMadeWith}

-- a fact holds if there is a value
pub kept : {T E P : Type 0} (r : Result T E) → P → OnOk r P
kept (Ok x) p = p
kept (Err e) p = tt

-- two facts of a value are one
pub both : {T E : Type 0} (P Q : T → Type 0) (r : Result T E) → IfOk r P → IfOk r Q → IfOk r (λ x. P x × Q x)
both P Q (Ok x) p q = (p, q)
both P Q (Err e) p q = tt

-- the status at a goal
pub at_goal : (making : Making) (exit : Exit) (status : ℕ) → making ≡ Goal exit → (status ≡ 0) ⊎ ((status ≡ 4) × (exit ≡ exits.Steps)) → IsMadeWith making status
at_goal making exit status is (inl zero) = inl zero
at_goal making exit status is (inr (four, steps)) = inr (four, is ∙ ap (λ (e : Exit). Goal e) steps)

-- a fact of every value
pub of_all : {T E : Type 0} {P : T → Type 0} (r : Result T E) → ((x : T) → P x) → IfOk r P
of_all (Ok x) f = f x
of_all (Err e) f = tt

-- a fact that follows from another one
pub weaker : {T E : Type 0} {P Q : T → Type 0} (r : Result T E) → IfOk r P → ((x : T) → P x → Q x) → IfOk r Q
weaker (Ok x) p f = f x p
weaker (Err e) p f = tt
