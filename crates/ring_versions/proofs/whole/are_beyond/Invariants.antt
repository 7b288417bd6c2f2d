use Rattle.std.proofs.Common.{length}
use Rattle.ring_clock.specs.Clock.{IsAtMost}
use Rattle.ring_versions.specs.Chunks.{all_of}
use Rattle.ring_versions.specs.Versions.{IsIn}
use Rattle.ring_versions.specs.declared.version.Version.{Version}
use Rattle.ring_versions.proofs.whole.are_beyond.Given as goal

-- it is so of all if it is so of the rest
abbrev pub invariant-chunks : goal.invariant-chunks
invariant-chunks l =
    ((v : Version) → IsIn v (all_of l.rest) → IsAtMost v.clock l.clock → ⊥) → (v : Version) → IsIn v (all_of l.chunks) → IsAtMost v.clock l.clock → ⊥

abbrev pub decreases-chunks : goal.decreases-chunks
decreases-chunks l = length l.rest
