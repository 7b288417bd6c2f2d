-- What events need of puts, tested on those that are kept.
use Rattle.std.specs.Prelude.{ℕ, Bool, false, ◌&&◌, ◌==◌, nat_lt, List, length, Some, None, slice_get}
use Rattle.plan_runs.specs.World.{passing_below}
use Rattle.store_parts.specs.declared.puts.PutNow.{PutNow}
use Rattle.store_parts.specs.Puts.{ticket_of}

-- there is a put of that number, and a slot of that index among n
abbrev pub has_put : List PutNow → ℕ → ℕ → ℕ → Bool
has_put puts n v i = nat_lt v (length puts) && nat_lt i n

-- the put of that number is acknowledged
abbrev pub is_acked_at : List PutNow → ℕ → Bool
is_acked_at puts v = elim (slice_get puts v) [ Some put ↦ put.acked | None ↦ false ]

-- its ticket for the slot of that index is of that generation
abbrev pub is_current_at : List PutNow → ℕ → ℕ → ℕ → Bool
is_current_at puts v i g = elim (ticket_of puts v i) [ Some h ↦ h == g | None ↦ false ]

-- how many of its tickets for the first n indexes are of the slots' generations
abbrev pub current_count : List PutNow → ℕ → (ℕ → ℕ) → ℕ → ℕ
current_count puts n generations v = length (passing_below n (λ i. is_current_at puts v i (generations i)))
