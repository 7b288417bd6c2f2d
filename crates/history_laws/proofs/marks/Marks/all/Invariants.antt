use Rattle.std.proofs.Common.{◌≡◌, map, take}
use Rattle.history_laws.specs.Parts.{renumbered}
use Rattle.history_laws.proofs.marks.Marks.all.Given as goal

abbrev pub invariant-wholes : goal.invariant-wholes
invariant-wholes l = l.numbers.items ≡ map (renumbered l.fn.self) (take l.whole-index l.fn.wholes)
