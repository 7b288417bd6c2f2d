-- Entries in blocks, one for each group of writers that has some.
use Rattle.std.specs.Prelude.{ℕ, ◌<◌, List, [], ◌∷◌, ◌++◌}
use Rattle.std.specs.Arc.{arc_value}
use Rattle.std.specs.List.{AllByRecursion}
use Rattle.ring_clock.specs.declared.entry.Entry.{Entry}
use Rattle.ring_clock.specs.declared.blocks.Blocks.{Blocks}
use Rattle.ring_clock.specs.declared.blocks.Blocks.TheVariants.{Empty, One, Many}
use Rattle.ring_clock.specs.Groups.{group_in, IsBlock}

-- each group is above g
abbrev pub IsBeyond : ℕ → List (List Entry) → Type 0
IsBeyond g bs = AllByRecursion (λ b. g < group_in b) bs

-- blocks whose groups ascend
abbrev pub AreBlocks : List (List Entry) → Type 0
AreBlocks [] = Unit {0}
AreBlocks (b ∷ bs) = IsBlock b × IsBeyond (group_in b) bs × AreBlocks bs

-- the entries of the blocks in order
abbrev pub entries_of : List (List Entry) → List Entry
entries_of [] = []
entries_of (b ∷ bs) = b ++ entries_of bs

-- the blocks of a clock
abbrev pub listed : Blocks → List (List Entry)
listed Empty = []
listed (One b) = b ∷ []
listed (Many a) = (arc_value a).items
