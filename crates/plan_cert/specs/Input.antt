-- What is known of an input.
use Rattle.std.specs.Prelude.{◌≡◌, ℕ, List, Option, IfSome}

-- the most bytes that a bundle may have, and a line of a history of any length
abbrev pub max_input : ℕ
max_input = 67108864

-- the bytes that are told, if any are, are bs
abbrev pub Tells : Option (List ℕ) → List ℕ → Type 0
Tells told bs = IfSome told (λ xs. xs ≡ bs)
