use Rattle.std.proofs.Common.{length}
use Rattle.ring_versions.specs.Shared.{looked_at}
use Rattle.ring_versions.proofs.Merging.{Sifted}
use Rattle.ring_versions.proofs.fresh_of.fresh_of_any.Given as goal

abbrev pub invariant-versions : goal.invariant-versions
invariant-versions l = Sifted (looked_at l.held) (looked_at l.versions) l.walk l.out.items

abbrev pub decreases-versions : goal.decreases-versions
decreases-versions l = length l.walk
