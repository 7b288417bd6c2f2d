use Rattle.std.proofs.Common.{◌≢◌, List, [], rules, subst}
use Rattle.ring_versions.specs.declared.version.Version.{Version}
use Rattle.ring_versions.specs.Versions.{IsMerge}
use Rattle.ring_versions.proofs.found.Found.with.Goals as goal

pub returns-clause-ok : goal.returns-clause-ok
returns-clause-ok c =
    let brought : c.in_ok-versions.versions ≢ [] = search rules in
    subst (λ (xs : List Version). IsMerge xs c.args.more.now c.in_ok-versions.versions) c.self.view_is (c.in_ok-versions.ensures.ok.merge brought)
