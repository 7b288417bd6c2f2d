use Rattle.std.proofs.Common.{length}
use Rattle.find_rounds.proofs.steps.+is_ascending.Given as goal

abbrev pub decreases-is_ascending : goal.decreases-is_ascending
decreases-is_ascending l = length l.numbers.now
