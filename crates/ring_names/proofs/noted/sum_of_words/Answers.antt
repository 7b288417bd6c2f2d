use Rattle.std.proofs.Common.{◌≡◌, ℕ, ◌≤◌, List, ◌∷◌, length, take, drop, refl, sym, ◌∙◌, arith}
use Rattle.std.specs.Int.{w64, from_le_bytes}
use Rattle.ring_names.specs.Noted.{next_sum, sum_of_words}
use Rattle.ring_names.proofs.noted.sum_of_words.Goals as goal

-- a whole word more
words-step : (sum : ℕ) (xs : List ℕ) → 8 ≤ length xs → sum_of_words sum xs ≡ sum_of_words (next_sum sum (from_le_bytes w64 (take 8 xs))) (drop 8 xs)
words-step sum (a ∷ b ∷ c ∷ d ∷ e ∷ f ∷ g ∷ h ∷ rest) le = refl
words-step sum xs le = absurd (omega arith)

pub words-preserved : goal.words-preserved
words-preserved c =
    let word = c.in-Some.ensures.cases in
    let all : 8 ≤ length c.words.rest.now = omega (arith, word.2) in
    rw (c.next_sum-sum.ensures, c.from_le_bytes.ensures, word.0, word.1) (sym (words-step c.words.sum c.words.rest.now all) ∙ c.words.invariant)
