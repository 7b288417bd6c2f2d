use Rattle.std.proofs.Common.{take}
use Rattle.ring_versions.specs.Chunks.{AreOwns}
use Rattle.ring_versions.proofs.part.owns_of.Given as goal

abbrev pub invariant-loop-version : goal.invariant-loop-version
invariant-loop-version l = AreOwns (take l.version-index l.versions) l.owns.items
