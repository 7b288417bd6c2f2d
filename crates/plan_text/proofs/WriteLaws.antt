-- What was written is the text of the plan.
use Rattle.std.proofs.Common.{◌≡◌, ℕ, List, [], ◌∷◌, ◌++◌, refl, sym, ap, ◌∙◌, append_assoc, Option, option_map, Some, None}
use Rattle.std.specs.List.{join_with_byte}
use Rattle.texts.specs.Parts.{line_text, spaced}
use Rattle.texts.proofs.Spaced.{join-more}
use Rattle.plan_text.proofs.Terms.{Step, Planned, kind_fields, after_fields, step_fields}
use Rattle.plan_text.proofs.PlanForm.{step-word}

-- a line of a step, as its parts were written
pub line-written : (names : List (List ℕ)) (x : Planned) (o a b c : List ℕ) → a ≡ o ++ join_with_byte 32 (kind_fields names x.step)
    → b ≡ a ++ spaced (after_fields x.after) → c ≡ b ++ 10 ∷ [] → c ≡ o ++ line_text (step_fields names x)
line-written names x o a b c ea eb ec =
    let w = step-word names x.step in
    let text : join_with_byte 32 (step_fields names x) ≡ join_with_byte 32 (kind_fields names x.step) ++ spaced (after_fields x.after) = rw w.2
    (join-more w.0 w.1 (after_fields x.after)) in
    ec ∙ rw (eb, ea) (simp append_assoc) ∙ ap (λ (r : List ℕ). o ++ (r ++ 10 ∷ [])) (sym text)

-- a step, of its two parts
pub step-is : (o : Option Planned) (s : Step) (after : List ℕ) → option_map (λ (x : Planned). x.step) o ≡ Some s
    → option_map (λ (x : Planned). x.after) o ≡ Some after → o ≡ Some (record { step = s; after = after })
step-is None s after a b = absurd cc
step-is (Some x) s after a b =
    let e : x.step ≡ s = cc in
    let f : x.after ≡ after = cc in
    rw (← e, ← f) refl
