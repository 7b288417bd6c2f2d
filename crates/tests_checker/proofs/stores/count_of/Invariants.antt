use Rattle.std.proofs.Common.{length}
use Rattle.tests_checker.proofs.stores.count_of.Given as goal

abbrev pub decreases-versions : goal.decreases-versions
decreases-versions l = length l.walk
