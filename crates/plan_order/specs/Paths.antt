-- Paths of dependencies.
use Rattle.std.specs.Prelude.{ℕ, ◌+◌, Bool, true, not, ◌&&◌, nat_le, List, [], ◌∷◌, length, min, Option, Some, None, slice_index_or, if◌then◌else◌}
use Rattle.ring_names.specs.declared.refusal.Refusal.{Refusal}
use Rattle.ring_names.specs.declared.refusal.Refusal.TheVariants.{BadPath}
use Rattle.plan_text.specs.declared.step.Planned.{Planned}
use Rattle.plan_text.specs.Steps.{depends}

-- each step is a direct dependency of the next
abbrev pub are_links : List Planned → List ℕ → Bool
are_links plan [] = true
are_links plan (a ∷ []) = true
are_links plan (a ∷ b ∷ rest) = depends plan a b && are_links plan (b ∷ rest)

-- at least two steps, each a direct dependency of the next
abbrev pub is_path : List Planned → List ℕ → Bool
is_path plan path = nat_le 2 (length path) && are_links plan path

-- whether that of number n is not a path
abbrev pub is_bad_at : List Planned → List (List ℕ) → ℕ → Bool
is_bad_at plan paths n = not (is_path plan (slice_index_or paths n []))

-- the refusal of the first of these that is not a path. The first has number n, and all from 2 ^ 32 - 1 on have
-- that number
abbrev pub first_bad : List Planned → ℕ → List (List ℕ) → Option Refusal
first_bad plan n [] = None
first_bad plan n (path ∷ paths) = if is_path plan path then first_bad plan (n + 1) paths else Some (BadPath (min n 4294967295))
