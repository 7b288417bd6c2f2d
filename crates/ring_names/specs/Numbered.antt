-- Bytes by number, and numbers by bytes.
use Rattle.std.specs.Prelude.{ℕ, List, map}
use Rattle.ring_names.specs.Finding.{Knows}
use Rattle.ring_names.specs.declared.numbered.Numbered.TheInside.{Inside}

-- the bytes without how they are kept
abbrev pub bytes_of : Inside → List (List ℕ)
bytes_of a = map (λ bytes. bytes.items) a.list.items

-- what holds of the fields together: each is new, and its number is found
abbrev pub IsNumbered : Inside → Type 0
IsNumbered a = Knows a.finder (bytes_of a)
