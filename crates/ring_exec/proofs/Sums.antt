-- The sum over a list from whose end an item was taken.
use Rattle.std.proofs.Common.{◌≡◌, ◌+◌, ℕ, List, [], ◌∷◌, ◌++◌, ap, arith}
use Rattle.std.specs.List.{sum_by}
use Rattle.std.proofs.lemmas.List.Sums.{sum_by-append}

pub sum_last : {X : Type 0} (f : X → ℕ) (all rest : List X) (x : X) → all ≡ rest ++ x ∷ [] → f x + sum_by f rest ≡ sum_by f all
sum_last f all rest x is = (let a = ap (sum_by f) is in let b = sum_by-append f rest (x ∷ []) in omega arith)

pub sum_none : {X : Type 0} (f : X → ℕ) (all : List X) → all ≡ [] → sum_by f all ≡ 0
sum_none f all is = ap (sum_by f) is
