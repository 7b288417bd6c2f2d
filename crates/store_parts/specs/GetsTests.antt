-- What events need of gets, tested on those that are kept.
use Rattle.std.specs.Prelude.{◌≡◌, ℕ, ◌<◌, Bool, true, false, ◌&&◌, ◌==◌, nat_lt, List, length, Some, None, slice_get, is_some}
use Rattle.ring_table.specs.Value.{RingValue}
use Rattle.plan_runs.specs.World.{World, passing_below, found_at}
use Rattle.store_parts.specs.declared.gets.GetNow.{GetNow}
use Rattle.store_parts.specs.Gets.{is_read_at}

-- there is a get of that number, and a slot of that index among n
abbrev pub has_get : List GetNow → ℕ → ℕ → ℕ → Bool
has_get gets n g i = nat_lt g (length gets) && nat_lt i n

-- there is a get with that number, and its key has that number
abbrev pub is_of_number : List GetNow → ℕ → ℕ → Bool
is_of_number gets k g = elim (slice_get gets g) [ Some get ↦ get.key == k | None ↦ false ]

-- the get of that number has ended
abbrev pub has_ended_at : List GetNow → ℕ → Bool
has_ended_at gets g = elim (slice_get gets g) [ Some get ↦ is_some get.reply | None ↦ false ]

-- how many of the 7 slots that a partition may have it has read
abbrev pub read_count : List GetNow → ℕ → ℕ
read_count gets g = length (passing_below 7 (is_read_at gets g))

-- gets have read nothing but slots of the ring
abbrev pub ReadsFit : RingValue → World → Type 0
ReadsFit ring w = (g i : ℕ) → is_some (found_at w g i) ≡ true → i < ring.n
