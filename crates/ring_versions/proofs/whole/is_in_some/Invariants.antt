use Rattle.std.proofs.Common.{◌↔◌, length}
use Rattle.ring_versions.specs.Chunks.{all_of}
use Rattle.ring_versions.specs.Versions.{Covers}
use Rattle.ring_versions.proofs.whole.is_in_some.Given as goal

abbrev pub invariant-chunks : goal.invariant-chunks
invariant-chunks l = Covers (all_of l.rest) l.clock ↔ Covers (all_of l.chunks) l.clock

abbrev pub decreases-chunks : goal.decreases-chunks
decreases-chunks l = length l.rest
