-- Names in order of first sight, and the number of each.
use Rattle.std.specs.Prelude.{ℕ, suc, List, [], ◌∷◌, ◌++◌, Option, Some, None, option_map, if◌then◌else◌, is_some}
use Rattle.std.specs.Str.{bytes_eq}

-- the number of a name: its place, from 0
abbrev pub place : List (List ℕ) → List ℕ → Option ℕ
place [] x = None
place (y ∷ ys) x = if bytes_eq x y then Some 0 else option_map (λ n. suc n) (place ys x)

-- the names once x was seen
abbrev pub with_name : List (List ℕ) → List ℕ → List (List ℕ)
with_name ys x = if is_some (place ys x) then ys else ys ++ x ∷ []
