use Rattle.std.proofs.Common.{◌++◌, length}
use Rattle.ring_versions.specs.Chunks.{all_of}
use Rattle.ring_versions.specs.Parts.{IsReordered}
use Rattle.ring_versions.specs.Shared.{looked_at}
use Rattle.ring_versions.proofs.left.put_all.Given as goal

-- those that were put and those left are all
abbrev pub invariant-versions : goal.invariant-versions
invariant-versions l = IsReordered (all_of l.initial.made.items ++ looked_at l.versions) (all_of l.made.items ++ l.walk)

abbrev pub decreases-versions : goal.decreases-versions
decreases-versions l = length l.walk
