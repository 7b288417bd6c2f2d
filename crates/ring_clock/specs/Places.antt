-- Counters of writers whose numbers follow one another, each at its writer's place.
use Rattle.std.specs.Prelude.{ℕ, ◌+◌, ◌<◌, ◌==◌, List, [], ◌∷◌, if◌then◌else◌}
use Rattle.ring_clock.specs.declared.entry.Entry.{Entry}

-- the entry of writer w
abbrev pub entry_of : ℕ → ℕ → Entry
entry_of w c = record { writer = record { 0 = w }; counter = c }

-- the entries of the counters above 0, of which the first one is writer w's
abbrev pub entries_from : ℕ → List ℕ → List Entry
entries_from w [] = []
entries_from w (c ∷ cs) = if c == 0 then entries_from (w + 1) cs else entry_of w c ∷ entries_from (w + 1) cs

-- its counter is below 2^31
abbrev pub IsLow : Entry → Type 0
IsLow e = e.counter < 2147483648
