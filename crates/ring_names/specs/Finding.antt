-- What finds the numbers of bytes, and what it knows of a list.
use Rattle.std.specs.Prelude.{◌≡◌, ◌⊎◌, ◌<◌, ℕ, List, [], Some, slice_get}
use Rattle.ring_names.specs.AtBytes.{value_at, Puts}
use Rattle.ring_names.specs.Lists.{AllNew}
use Rattle.ring_names.specs.Noted.{IsNoted}
use Rattle.ring_names.specs.declared.finder.Finder.{Finder}
use Rattle.ring_names.specs.declared.noted.Noted.{Noted}

-- the number of the bytes is found: in the table, or beside it
abbrev pub IsKept : List Noted → Finder → List ℕ → ℕ → Type 0
IsKept table a bytes n = IsNoted table bytes n ⊎ (value_at a.others bytes ≡ Some n)

-- the numbers of a list of different bytes are found, with a table
abbrev pub FindsAll : List Noted → Finder → List (List ℕ) → Type 0
FindsAll table a list = (n : ℕ) (bytes : List ℕ) → slice_get list n ≡ Some bytes → IsKept table a bytes n

-- those below a number are
abbrev pub FindsBelow : List Noted → Finder → List (List ℕ) → ℕ → Type 0
FindsBelow table a list below = (n : ℕ) (bytes : List ℕ) → n < below → slice_get list n ≡ Some bytes → IsKept table a bytes n

-- all numbers of a list of different bytes are found, and beside the table no others
pub record Knows (a : Finder) (list : List (List ℕ)) : Type 0 where
  pub new : AllNew [] list
  pub all : FindsAll a.table.items a list
  pub others : (n : ℕ) (bytes : List ℕ) → value_at a.others bytes ≡ Some n → slice_get list n ≡ Some bytes

-- nothing that is found has changed
pub record IsSame (a b : Finder) : Type 0 where
  pub table : b.table.items ≡ a.table.items
  pub others : b.others.entries ≡ a.others.entries

-- one number more stands beside the table
pub record TakesOther (a b : Finder) (bytes : List ℕ) (n : ℕ) : Type 0 where
  pub table : b.table.items ≡ a.table.items
  pub puts : Puts a.others b.others bytes n

-- one number more stands in the table
pub record TakesNoted (a b : Finder) (bytes : List ℕ) (n : ℕ) : Type 0 where
  pub here : IsNoted b.table.items bytes n
  pub kept : (bs : List ℕ) (m : ℕ) → IsNoted a.table.items bs m → IsNoted b.table.items bs m
  pub others : b.others.entries ≡ a.others.entries
