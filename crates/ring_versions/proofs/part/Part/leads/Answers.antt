use Rattle.std.proofs.Common.{◌∙◌, List, subst}
use Rattle.ring_versions.specs.Versions.{IsIn}
use Rattle.ring_versions.specs.declared.version.Version.{Version}
use Rattle.ring_versions.proofs.Members.{found_at}
use Rattle.ring_versions.proofs.part.Part.leads.Goals as goal

pub returns-in-Some-get : goal.returns-in-Some-get
returns-in-Some-get c = λ h.
    let version = c.in-Some-get.version.now in
    let at = found_at c.as_slice.result.now c.in-Some.place version ((c.in-Some-get.ensures).lookup.3) in
    (version, subst (λ (vs : List Version). IsIn version vs) (c.as_slice.ensures.value ∙ c.self.view_is) at, c.le.ensures.0 h)
