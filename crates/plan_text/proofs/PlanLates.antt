-- Reading a plan does not go back, and each of its faults is at a line that was reached.
use Rattle.std.proofs.Common.{◌≡◌, ℕ, ◌≤◌, false, not, List, [], codes, Result, Ok, refl, ap}
use Rattle.texts.proofs.Forms.{Left, begins_with, next_line, pushed, loop-late, is_word, next_number, header_at, one_line, ReadsTo, At, Advances, ending, goes_on, no-line, to-first, to-after, past, Refusal}
use Rattle.plan_text.proofs.Terms.{RingValue, IsRing, Step, Planned, planned_of}
use Rattle.plan_text.specs.Reading.{said_at, steps_from, steps_at, plan_at}
use Rattle.plan_text.proofs.PlanForm.{said_line, step_line, steps-loop, plan_form}

module _ (ring : RingValue) where
  pub said-at : (seen : List Planned) (k : ℕ) (fields : List (List ℕ)) → At k (said_at ring seen k fields)
  unfolding said_at
  said-at seen k fields = (said_line ring seen).at k fields

  pub steps-at : (s : Left) → steps_from ring [] s.line s.lines ≡ steps_at ring s
  unfolding steps_at
  steps-at s = refl

  -- memory that is asked for after a line that was taken
  pub steps-late : (seen : List Planned) (start s t : Left) (fields : List (List ℕ)) (x : Step × List ℕ) (total : Result (List Planned × Left) Refusal)
      → begins_with (codes "end") s.lines ≡ false → next_line s ≡ Ok (fields, t) → said_at ring seen s.line fields ≡ Ok x
      → start.line ≤ s.line → steps_from ring seen s.line s.lines ≡ total → (next_number start.line ≤ t.line) × ReadsTo t.line total
  unfolding said_at
  steps-late seen start s t fields x total b e f =
      loop-late (goes_on (is_word (codes "end"))) (λ ys. (step_line ring ys).read) pushed (steps_from ring) (steps-loop ring) (λ ys k. no-line k)
      (λ ys. (step_line ring ys).at)
      (λ ys k h. refl) seen start s t fields (planned_of x) total (ap not b) e (rw f refl)

  pub plan-on : Advances (plan_at ring)
  unfolding plan_at steps_at
  plan-on = (plan_form ring).advances

  -- it ends after it begins
  pub past-plan : (s t : Left) (plan : List Planned) → plan_at ring s ≡ Ok (plan, t) → s.line ≤ t.line
  past-plan s t plan e = past (plan_at ring) plan-on s t plan e

  -- after the first line: a place among the steps
  pub plan-steps : (s t : Left) (u : Unit {0}) → one_line (header_at (codes "plan") (codes "1")) s ≡ Ok (u, t) → (k : ℕ) → ReadsTo k (steps_at ring t)
      → ReadsTo k (plan_at ring s)
  unfolding plan_at
  plan-steps s t u start k p = to-after (λ x. x.1.0) (one_line (header_at (codes "plan") (codes "1"))) _ k s t u start
      (to-first (steps_at ring) (λ _. (ending {W = IsRing ring}).read) k t (λ _. (ending {W = IsRing ring}).advances) p)
