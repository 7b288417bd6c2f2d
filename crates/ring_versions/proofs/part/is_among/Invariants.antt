use Rattle.std.proofs.Common.{◌↔◌, length}
use Rattle.ring_versions.specs.Versions.{Covers}
use Rattle.ring_versions.proofs.part.is_among.Given as goal

abbrev pub invariant-versions : goal.invariant-versions
invariant-versions l = Covers l.rest l.clock ↔ Covers l.versions l.clock

abbrev pub decreases-versions : goal.decreases-versions
decreases-versions l = length l.rest
