-- What facts are about.
use Rattle.std.specs.Prelude.{ℕ, List, ◌++◌, codes}
use Rattle.std.specs.Fmt.{decimal}
use Rattle.change_text.specs.declared.layout.Fact.{Fact}
use Rattle.change_text.specs.declared.layout.Fact.TheVariants.{Rack, Weight, Alias, Size, Dead}

-- the first two fields of a fact's line, which no other line of a layout has
abbrev pub subject_of : Fact → List ℕ
subject_of (Rack node rack) = codes "rack " ++ node
subject_of (Weight node parts) = codes "weight " ++ node
subject_of (Alias node alias) = codes "alias " ++ node
subject_of (Size partition size) = codes "size " ++ decimal partition
subject_of (Dead node) = codes "dead " ++ node
