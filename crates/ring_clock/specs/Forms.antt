-- The forms of a block.
use Rattle.std.specs.Prelude.{List, ◌∷◌, []}
use Rattle.ring_clock.specs.declared.entry.Entry.{Entry}
use Rattle.ring_clock.specs.declared.block.Form.{Form}
use Rattle.ring_clock.specs.declared.block.Form.TheVariants.{One, Few, Full}
use Rattle.ring_clock.specs.declared.block.Look.{Look}
use Rattle.ring_clock.specs.declared.block.Look.TheVariants.{Few as LooksFew, Full as LooksFull}

-- the entries of a block
abbrev pub entries_in : Form → List Entry
entries_in (One e) = e ∷ []
entries_in (Few v) = v.items
entries_in (Full b) = b.value

-- those that are looked at
abbrev pub looked_in : Look → List Entry
looked_in (LooksFew s) = s.now
looked_in (LooksFull b) = b.now
