-- What is told of a result.
use Rattle.std.proofs.Common.{◌≡◌, ℕ, List, subst}
use Rattle.std.specs.Prelude.{Result}
use Rattle.ring_names.specs.declared.refusal.Refusal.{Refusal}
use Rattle.ringplan_c.specs.Room.{Fills}
use Rattle.ringplan_answers.specs.Answers.{output_of, status_of}

-- the room is filled with what is told, by other words for it
pub filled : (s : Result (List ℕ) Refusal) (text : List ℕ) (status : ℕ) (old new : List ℕ) (told result : ℕ) → text ≡ output_of s → status ≡ status_of s → Fills text status old new told result → Fills (output_of s) (status_of s) old new told result
filled s text status old new told result text_is status_is fills =
    subst (λ (t : List ℕ). Fills t (status_of s) old new told result) text_is (subst (λ (n : ℕ). Fills text n old new told result) status_is fills)
