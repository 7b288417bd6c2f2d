use Rattle.std.proofs.Common.{length}
use Rattle.ring_versions.specs.Chunks.{all_of}
use Rattle.ring_versions.specs.Shared.{looked_at, all_left}
use Rattle.ring_versions.proofs.Merging.{Sifted}
use Rattle.ring_versions.proofs.left.left_of.Given as goal

abbrev pub invariant-chunks : goal.invariant-chunks
invariant-chunks l = Sifted (looked_at l.fresh) (all_of l.chunks) (all_of l.rest) (all_left l.left)

abbrev pub decreases-chunks : goal.decreases-chunks
decreases-chunks l = length l.rest
