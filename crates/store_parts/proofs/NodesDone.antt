-- Tests over the finished steps of a plan, once one more is finished.
use Rattle.std.proofs.Common.{◌≡◌, inl, inr, ℕ, Bool, true, false, List, [], ◌∷◌, ◌+◌, refl}
use Rattle.std.specs.Prelude.{◌==◌, ◌&&◌, ◌||◌, Option, Some, None}
use Rattle.std.proofs.lemmas.Bool.{and_parts, or_right, and_from, or_cases, or_left}
use Rattle.ring_names.proofs.Logic.{bool_same}
use Rattle.plan_text.specs.declared.step.Step.{Step}
use Rattle.plan_text.specs.declared.step.Planned.{Planned}
use Rattle.plan_stage.specs.Each.{some_step, step_at, passes}
use Rattle.plan_runs.specs.Effects.{with_number}
use Rattle.plan_runs.proofs.Copying.{still_passes}
use Rattle.plan_runs.proofs.Prefix.{passed}
use Rattle.plan_stage.proofs.Truth.{same, some-met, some-all}

-- no step passes a test that none passes
pub none_done : (test : Step → Bool) (n : ℕ) (plan : List Planned) → some_step (λ m s. false && test s) n plan ≡ false
none_done test n [] = refl
none_done test n (x ∷ xs) = none_done test (n + 1) xs

-- a finished step that passes is the last one that was finished, or was finished before
pub some_with : (D : ℕ → Bool) (n : ℕ) (test : Step → Bool) (plan : List Planned)
    → some_step (λ m s. with_number D n m && test s) 0 plan ≡ (passes test plan n || some_step (λ m s. D m && test s) 0 plan)
some_with D n test plan = bool_same (some_step (λ m s. with_number D n m && test s) 0 plan) (passes test plan n || some_step (λ m s. D m && test s) 0 plan) onto back
  where
    onto : some_step (λ m s. with_number D n m && test s) 0 plan ≡ true → (passes test plan n || some_step (λ m s. D m && test s) 0 plan) ≡ true
    onto h =
        let f = some-met (λ m s. with_number D n m && test s) plan h in
        let b = and_parts (with_number D n f.0) (test f.1) f.3 in
        elim (passed D n f.0 b.0) [
          | inl e ↦ or_left (passes test plan n) _ (rw (← e, f.2, passes) b.1)
          | inr e ↦ or_right (passes test plan n) _ (some-all (λ m s. D m && test s) plan f.0 f.1 f.2 (and_from (D f.0) (test f.1) e b.1))
        ]

    here : (o : Option Step) → step_at plan n ≡ o → (elim o [ Some s ↦ test s | None ↦ false ]) ≡ true → some_step (λ m s. with_number D n m && test s) 0 plan ≡ true
    here None e h = absurd cc
    here (Some s) e h = some-all (λ m s. with_number D n m && test s) plan n s e (and_from (with_number D n n) (test s) (or_left (n == n) (D n) (same n)) h)

    back : (passes test plan n || some_step (λ m s. D m && test s) 0 plan) ≡ true → some_step (λ m s. with_number D n m && test s) 0 plan ≡ true
    back h = elim (or_cases (passes test plan n) (some_step (λ m s. D m && test s) 0 plan) h) [
      | inl e ↦ here (step_at plan n) refl e
      | inr e ↦ (
          let f = some-met (λ m s. D m && test s) plan e in
          let b = and_parts (D f.0) (test f.1) f.3 in
          some-all (λ m s. with_number D n m && test s) plan f.0 f.1 f.2 (and_from (with_number D n f.0) (test f.1) (still_passes D n f.0 b.0) b.1))
    ]

-- where that step does not pass, it tells nothing new
pub some_without : (D : ℕ → Bool) (n : ℕ) (test : Step → Bool) (plan : List Planned) (s : Step) → step_at plan n ≡ Some s → test s ≡ false
    → some_step (λ m t. with_number D n m && test t) 0 plan ≡ some_step (λ m t. D m && test t) 0 plan
some_without D n test plan s at off = rw (some_with D n test plan, at, passes, off) refl
