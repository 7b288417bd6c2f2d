use Rattle.std.proofs.Common.{◌≡◌, ◌∙◌, [], List, IfOk, sym, ap, subst}
use Rattle.std.proofs.lemmas.Result.{IfOk-weaker}
use Rattle.ring_versions.specs.Fresh.{Brings}
use Rattle.ring_versions.specs.Shared.{shared_versions}
use Rattle.ring_versions.specs.declared.version.Version.{Version}
use Rattle.ring_versions.proofs.Merging.{brings_all}
use Rattle.ring_versions.proofs.versions.Versions.made_with.Goals as goal

pub returns-in-Nothing-default-clause-ok : goal.returns-in-Nothing-default-clause-ok
returns-in-Nothing-default-clause-ok c =
    let other = c.args.other.now in
    let none : c.args.self.now ≡ [] = sym c.self.view_is ∙ ap shared_versions c.in-Nothing-default.is-0 in
    subst (λ (held : List Version). IfOk c.try_copy.result (Brings held other)) (sym none)
    (IfOk-weaker c.try_copy.result (λ s. s ≡ other) (Brings [] other) (λ s e. subst (Brings [] other) (sym e) (brings_all other c.try_copy.ensures.apart)) c.try_copy.ensures.same)
