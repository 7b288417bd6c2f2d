use Rattle.std.proofs.Common.{length}
use Rattle.ring_versions.proofs.Merging.{Sifted}
use Rattle.ring_versions.proofs.fresh_of.fresh_of_list.Given as goal

abbrev pub invariant-versions : goal.invariant-versions
invariant-versions l = Sifted l.held l.versions l.rest l.out.items

abbrev pub decreases-versions : goal.decreases-versions
decreases-versions l = length l.rest
