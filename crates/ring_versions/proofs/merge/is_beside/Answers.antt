use Rattle.std.proofs.Common.{rules}
use Rattle.std.proofs.lemmas.List.Elements.{recursion_from_All}
use Rattle.ring_clock.specs.Clock.{IsAtMost}
use Rattle.ring_versions.specs.declared.version.Version.{Version}
use Rattle.ring_versions.proofs.Members.{each}
use Rattle.ring_versions.proofs.merge.is_beside.Goals as goal

pub returns : goal.returns
returns c = λ yes.
    let versions = c.args.versions.now in
    let clock = c.args.clock.now in
    let Apart : Version → Type 0 = λ v. (IsAtMost clock v.clock → ⊥) × (IsAtMost v.clock clock → ⊥) in
    let apart = each Apart versions (recursion_from_All Apart versions (search rules)) in
    record { not_covered = λ h. (apart h.0 h.1).0 h.2; covers_none = λ v h. (apart v h).1 }
