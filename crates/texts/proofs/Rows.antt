-- Numbers in a row are plain.
use Rattle.std.proofs.Common.{◌≡◌, ℕ, true, nat_lt, List, [], ◌∷◌, map, arith}
use Rattle.std.specs.Fmt.{decimal}
use Rattle.std.specs.List.{AllByRecursion}
use Rattle.std.proofs.lemmas.Bool.{ltb-true, and_parts}
use Rattle.texts.specs.Numbers.{are_small}
use Rattle.texts.specs.Laws.{IsPlain}
use Rattle.texts.proofs.Wholes.{decimal-plain}

pub numbers-plain : (xs : List ℕ) → are_small xs ≡ true → AllByRecursion IsPlain (map decimal xs)
numbers-plain [] e = tt
numbers-plain (x ∷ xs) e =
    let p = and_parts (nat_lt x 4294967296) (are_small xs) e in
    let lt = ltb-true x 4294967296 p.0 in
    (decimal-plain x (omega (arith, lt)), numbers-plain xs p.1)
