-- How the checker looks at a clause: what is listed and what is marked at places, which are by number and side.
use Rattle.std.specs.Prelude.{ℕ, ◌+◌, ◌*◌, ◌≤◌, nat_lt, Bool, ◌==◌, List, [], Some, None, length, slice_get, slice_index}
use Rattle.ring_table.specs.declared.allowance.Side.{Side}
use Rattle.ring_table.specs.declared.allowance.Side.TheVariants.{Both, Take, Give}
use Rattle.plan_cover.specs.declared.by_place.ByPlace.{ByPlace}
use Rattle.plan_cover.specs.declared.marks.Marks.{Marks}

-- the sides in order
abbrev pub side_number : Side → ℕ
side_number Both = 0
side_number Take = 1
side_number Give = 2

-- the place of a node's or a step's number on a side
abbrev pub place_at : ℕ → Side → ℕ
place_at n side = 3 * n + side_number side

-- the values at a place
abbrev pub listed_at : {V : Type 0} → ByPlace V → ℕ → List V
listed_at a place = elim (slice_get a.lists.items place) [ Some list ↦ list.items | None ↦ [] ]

-- whether the number is marked on the side
abbrev pub is_marked : Marks → Side → ℕ → Bool
is_marked a side n = slice_index a.rounds.items (place_at n side) == a.round

-- how many places can be marked
abbrev pub place_count : Marks → ℕ
place_count a = length a.rounds.items

-- whether the number can be marked on the side
abbrev pub is_within : Marks → Side → ℕ → Bool
is_within a side n = nat_lt (place_at n side) (place_count a)

-- each number below the count can be marked
abbrev pub HasPlaces : ℕ → Marks → Type 0
HasPlaces count a = 3 * count ≤ place_count a
