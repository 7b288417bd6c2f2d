-- Pairs by number, and numbers by pair.
use Rattle.std.specs.Prelude.{◌≡◌, ◌↔◌, ℕ, List, Option, Some, slice_get}
use Rattle.std.specs.BTreeMap.{get}
use Rattle.ring_hints.specs.declared.kept_for.KeptFor.{KeptFor}
use Rattle.ring_hints.specs.declared.numbered.Numbered.TheInside.{Inside}
use Rattle.ring_hints.specs.Views.{by_keeper}

-- a pair has the number n exactly if it is the n-th
abbrev pub ArePlaces : (KeptFor → Option ℕ) → List KeptFor → Type 0
ArePlaces number_of pairs = (pair : KeptFor) (n : ℕ) → (number_of pair ≡ Some n) ↔ (slice_get pairs n ≡ Some pair)

-- what holds of the fields together: the number at each pair is its place
abbrev pub IsNumbered : Inside → Type 0
IsNumbered a = ArePlaces (get by_keeper a.numbers) a.pairs.items
