-- What is left of a list behind receipts that pass a test.
use Rattle.std.specs.Prelude.{Bool, false, List, [], ◌∷◌, cond}
use Rattle.ring_board.specs.declared.receipt.Receipt.{Receipt}

-- behind the first ones, as long as they pass
abbrev pub behind : (Receipt → Bool) → List Receipt → List Receipt
behind test [] = []
behind test (r ∷ rs) = cond (test r) (behind test rs) (r ∷ rs)

-- behind the first one, where it passes
abbrev pub behind_one : (Receipt → Bool) → List Receipt → List Receipt
behind_one test [] = []
behind_one test (r ∷ rs) = cond (test r) rs (r ∷ rs)

-- whether the first one passes
abbrev pub begins_with : (Receipt → Bool) → List Receipt → Bool
begins_with test [] = false
begins_with test (r ∷ rs) = test r
