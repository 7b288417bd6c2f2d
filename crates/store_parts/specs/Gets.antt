-- The gets of a running store, by number.
use Rattle.std.specs.Prelude.{ℕ, Bool, false, List, Some, None, slice_get}
use Rattle.store_parts.specs.declared.gets.GetNow.{GetNow}
use Rattle.store_parts.specs.Marks.{has_mark}

-- whether the get has read the slot of that index
abbrev pub is_read : GetNow → ℕ → Bool
is_read get i = has_mark get.read i

-- the same of the get of that number
abbrev pub is_read_at : List GetNow → ℕ → ℕ → Bool
is_read_at gets g i = elim (slice_get gets g) [ Some get ↦ is_read get i | None ↦ false ]
