-- What a call from C leaves in its caller's room.
use Rattle.std.specs.Prelude.{◌≡◌, ◌⊎◌, ℕ, ◌<◌, ◌≤◌, List, ◌++◌, drop, length}

-- the status where the room is too small
abbrev pub more_room : ℕ
more_room = 4

-- the text's length is told. If the text fits, the room begins with the text, and the result is the status. If not, the
-- room is unchanged
abbrev pub Fills : List ℕ → ℕ → List ℕ → List ℕ → ℕ → ℕ → Type 0
Fills text status old new told result = (told ≡ length text)
    × (((length text ≤ length old) × (new ≡ text ++ drop (length text) old) × (result ≡ status))
    ⊎ ((length old < length text) × (new ≡ old) × (result ≡ more_room)))
