use Rattle.std.proofs.Common.{false, length}
use Rattle.history_laws.specs.Past.{Tells}
use Rattle.history_laws.specs.Slots.{is_in}
use Rattle.history_laws.proofs.past.are_told.Given as goal

abbrev pub invariant-entries : goal.invariant-entries
invariant-entries l = Tells l.old l.numbers (is_in l.taken) l.rest l.left → Tells l.old l.numbers (λ s. false) l.fn.earlier l.fn.told.entries.now

abbrev pub decreases-entries : goal.decreases-entries
decreases-entries l = length l.rest
