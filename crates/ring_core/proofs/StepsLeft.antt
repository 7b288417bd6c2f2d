-- How many steps are not done, by those that are kept.
use Rattle.std.proofs.Common.{◌≡◌, ◌∙◌, ℕ, zero, suc, ◌+◌, Bool, true, false, not, cond, List, [], ◌∷◌, length, refl, sym, ap, arith}
use Rattle.std.proofs.lemmas.List.Recursion.{is_count_by}
use Rattle.plan_text.specs.declared.step.Planned.{Planned}
use Rattle.plan_runs.specs.World.{World, passing_from, passing_below}
use Rattle.store_parts.specs.declared.steps.StepNow.{StepNow}
use Rattle.store_parts.specs.Steps.{steps_left, is_done_at}
use Rattle.store_parts.specs.StepsMeet.{StepsMeet}
use Rattle.ring_core.specs.Tables.{left_of}

-- how many of these are not done
undone : List StepNow → ℕ
undone [] = 0
undone (x ∷ steps) = cond (not x.done) (1 + undone steps) (undone steps)

-- those that are not done, from number k on
counted : (k : ℕ) (steps : List StepNow) (done : ℕ → Bool) → ((j : ℕ) → is_done_at steps j ≡ done (k + j)) → undone steps ≡ length (passing_from k (length steps) (λ n. not (done n)))
unfolding undone
counted k [] done same = refl
counted k (x ∷ steps) done same =
    let first : x.done ≡ done k = same zero ∙ ap done (omega arith) in
    by (done k) first (counted (k + 1) steps done (λ j. same (suc j) ∙ ap done (omega arith)))
  where
    by : (b : Bool) → x.done ≡ b → undone steps ≡ length (passing_from (k + 1) (length steps) (λ n. not (done n)))
        → cond (not x.done) (1 + undone steps) (undone steps) ≡ length (cond (not b) (k ∷ passing_from (k + 1) (length steps) (λ n. not (done n))) (passing_from (k + 1) (length steps) (λ n. not (done n))))
    by true e f = rw e f
    by false e f = rw e (omega arith)

undone_is : (steps : List StepNow) → undone steps ≡ steps_left steps
unfolding undone
undone_is steps = is_count_by undone (λ (now : StepNow). not now.done) refl (λ x ys. refl) steps

pub left_is : (plan : List Planned) (steps : List StepNow) (w : World) → StepsMeet plan steps w → steps_left steps ≡ left_of plan w
left_is plan steps w m =
    sym (undone_is steps)
    ∙ counted 0 steps w.done (λ j. m.done j ∙ ap w.done (omega arith))
    ∙ ap (λ (n : ℕ). length (passing_below n (λ j. not (w.done j)))) m.each
