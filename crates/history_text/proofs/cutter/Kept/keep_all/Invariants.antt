use Rattle.std.proofs.Common.{take}
use Rattle.history_text.specs.Cutter.{CutsMany}
use Rattle.history_text.proofs.cutter.Kept.keep_all.Given as goal

abbrev pub invariant-loop-entry : goal.invariant-loop-entry
invariant-loop-entry l = CutsMany l.fn.self l.self l.ring l.writers (take l.entry-index l.entries)
