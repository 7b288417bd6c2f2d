-- Into how many partitions the hash space may be divided.
use Rattle.std.specs.Prelude.{ℕ, Bool, List, [], ◌∷◌}
use Rattle.ring_names.specs.Lists.{has}

-- the powers of two from 1 to 4,096
abbrev pub spaces : List ℕ
spaces = 1 ∷ 2 ∷ 4 ∷ 8 ∷ 16 ∷ 32 ∷ 64 ∷ 128 ∷ 256 ∷ 512 ∷ 1024 ∷ 2048 ∷ 4096 ∷ []

-- one of them
unfoldable pub is_space : ℕ → Bool
is_space q = has q spaces
