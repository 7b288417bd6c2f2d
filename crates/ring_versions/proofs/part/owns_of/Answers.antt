use Rattle.std.proofs.Common.{◌∙◌, ◌+◌, ◌∷◌, ◌++◌, [], List, take, sym, ap, subst, arith}
use Rattle.std.proofs.lemmas.List.{take_more, take_all}
use Rattle.ring_clock.specs.declared.entry.Entry.{Entry}
use Rattle.ring_versions.specs.declared.version.Version.{Version}
use Rattle.ring_versions.specs.Chunks.{AreOwns}
use Rattle.ring_versions.proofs.Owning.{own_behind}
use Rattle.ring_versions.proofs.part.owns_of.Goals as goal

pub loop-version-preserved : goal.loop-version-preserved
loop-version-preserved c =
    let done = take c.loop-version.version-index c.args.versions.now in
    let x = c.version-item.result in
    let own = c.own_of.result in
    let owns = c.loop-version.owns.items in
    let more = take_more c.args.versions.now c.loop-version.version-index x c.loop-version-test.true ∙ ap (λ (v : Version). done ++ v ∷ []) (sym c.version-item.is) in
    let each = subst (λ (vs : List Version). AreOwns vs (owns ++ own ∷ [])) (sym more) (own_behind done owns x own (omega arith) c.loop-version.invariant) in
    subst (λ (es : List Entry). AreOwns (take (c.loop-version.version-index + 1) c.args.versions.now) es) (sym (c.in_ok-push.ensures).items) each

pub returns-clause-ok : goal.returns-clause-ok
returns-clause-ok c = subst (λ (vs : List Version). AreOwns vs c.loop-version.owns.items) (take_all c.loop-version.version-index c.args.versions.now c.loop-version-test.false) c.loop-version.invariant
