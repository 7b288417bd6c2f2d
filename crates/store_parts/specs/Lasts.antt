-- The last put of each writer on each key.
use Rattle.std.specs.Prelude.{ℕ, List, Option, slice_get}
use Rattle.std.specs.Option.{option_and_then}
use Rattle.std.specs.Ordering.{nat_cmp}
use Rattle.store_maps.specs.Sorted.{value_by}
use Rattle.store_parts.specs.declared.lasts.Lasts.{Lasts}
use Rattle.store_parts.specs.declared.lasts.Row.{Row}

-- the last put of the writer in the key's row
abbrev pub last_in : List Row → ℕ → ℕ → Option ℕ
last_in rows k w = option_and_then (λ row. value_by nat_cmp row.puts.items w) (slice_get rows k)

-- the last put of the writer on the key, if there is one
abbrev pub last_of : Lasts → ℕ → ℕ → Option ℕ
last_of lasts = last_in lasts.rows.items
