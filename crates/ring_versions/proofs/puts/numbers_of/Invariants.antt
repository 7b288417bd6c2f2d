use Rattle.std.proofs.Common.{◌≡◌, ◌++◌, length, map}
use Rattle.ring_versions.specs.declared.version.Version.{Version}
use Rattle.ring_versions.proofs.puts.numbers_of.Given as goal

abbrev pub invariant-versions : goal.invariant-versions
invariant-versions l = l.numbers.items ++ map (λ (v : Version). v.put) l.versions ≡ map (λ (v : Version). v.put) l.initial.versions

abbrev pub decreases-versions : goal.decreases-versions
decreases-versions l = length l.versions
