use Rattle.std.proofs.Common.{length}
use Rattle.ring_versions.proofs.joining.+join_of.Given as goal

abbrev pub decreases-join_of : goal.decreases-join_of
decreases-join_of l = length l.versions.now
