-- Entries of keys, by number, and their versions: few in a vector, many in a tree.
use Rattle.std.specs.Prelude.{ℕ, List, Option}
use Rattle.std.specs.List.Sorted.{IsStrictlySortedBy-prop}
use Rattle.std.specs.Map.{keys_of}
use Rattle.std.specs.Map.Iter.{TakesFirst, deref_pair}
use Rattle.std.specs.Ordering.{nat_cmp}
use Rattle.std.proofs.Common.{Bor}
use Rattle.ring_versions.specs.declared.version.Version.{Version}
use Rattle.store_maps.specs.declared.entries.Entries.{Entries}
use Rattle.store_maps.specs.declared.entries.Entries.TheVariants.{Few, Many}
use Rattle.store_maps.specs.declared.walk.Walk.{Walk}
use Rattle.store_maps.specs.declared.walk.Walk.TheVariants.{Few as few_left, Many as many_left}
use Rattle.store_maps.specs.Sorted.{Ascends}

-- the entries, be they few or many
abbrev pub entries_of : Entries → List (ℕ × List Version)
entries_of (Few list) = list.items
entries_of (Many tree) = tree.entries

-- the entries that a walk has left
abbrev pub left_of : Walk → List (ℕ × List Version)
left_of (few_left rest) = rest.now
left_of (many_left rest) = rest

-- a step of a walk shows the first entry that is left
abbrev pub TakesNext : Walk → Option (Bor ℕ × Bor (List Version)) → Walk → Type 0
TakesNext s r t = TakesFirst deref_pair (left_of s) r (left_of t)

-- the keys ascend
abbrev pub IsInOrder : Entries → Type 0
IsInOrder a = Ascends nat_cmp (entries_of a)

pub IsInOrder-prop : (a : Entries) → IsProp (IsInOrder a)
IsInOrder-prop a = IsStrictlySortedBy-prop nat_cmp (keys_of (entries_of a))
