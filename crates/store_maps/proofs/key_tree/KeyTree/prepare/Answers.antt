use Rattle.std.proofs.Common.{◌≡◌, ◌∙◌, refl, sym, List, [], ap, subst, Option}
use Rattle.std.specs.Prelude.{unwrap_or, is_some, IsSome}
use Rattle.std.proofs.lemmas.Result.{IfOk-weaker}
use Rattle.ring_versions.specs.Fresh.{IsFreshFor}
use Rattle.ring_versions.specs.declared.version.Version.{Version}
use Rattle.store_maps.specs.Trees.{kept}
use Rattle.store_maps.proofs.key_tree.KeyTree.prepare.Goals as goal

pub returns-in-Some-clause-ready : goal.returns-in-Some-clause-ready
returns-in-Some-clause-ready c =
    let is = sym (c.in-Some.ensures).some in
    let was = ap (λ (o : Option (List Version)). unwrap_or o []) is in
    IfOk-weaker c.fresh_of.result _ _ (λ f h. (subst IsSome is refl, (c.args.more.now, subst (λ (kept : List Version). IsFreshFor kept c.args.more.now f) was h))) c.fresh_of.ensures.ok

pub returns-clause-ready : goal.returns-clause-ready
returns-clause-ready c =
    let put = (c.in_ok-put.ensures).ok in
    let was : kept c.put.new.self c.args.key ≡ c.new-2.result = ap (λ (o : Option (List Version)). unwrap_or o []) put.here ∙ c.new.ensures ∙ sym c.new-2.ensures in
    IfOk-weaker c.fresh_of-2.result _ _ (λ f h. (ap is_some put.here, (c.args.more.now, subst (λ (kept : List Version). IsFreshFor kept c.args.more.now f) (sym was) h))) c.fresh_of-2.ensures.ok
