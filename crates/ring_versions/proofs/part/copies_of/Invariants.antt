use Rattle.std.proofs.Common.{◌≡◌, take}
use Rattle.ring_versions.proofs.part.copies_of.Given as goal

abbrev pub invariant-loop-version : goal.invariant-loop-version
invariant-loop-version l = l.out.items ≡ take l.version-index l.versions
