use Rattle.std.proofs.Common.{◌≡◌, ℕ, ◌<◌, length}
use Rattle.history_laws.specs.Parts.{is_marked}
use Rattle.history_laws.specs.Choices.{is_chosen}
use Rattle.history_laws.proofs.choice.mark_chosen.Given as goal

abbrev pub invariant-loop-partition : goal.invariant-loop-partition
invariant-loop-partition l = (length l.marks.items ≡ l.partition) × ((p : ℕ) → p < l.partition → is_marked l.marks.items p ≡ is_chosen l.choice p)
