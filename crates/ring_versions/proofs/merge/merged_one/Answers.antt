use Rattle.std.proofs.Common.{◌≡◌, ◌∙◌, ◌∷◌, ◌++◌, [], List, sym, ap, subst}
use Rattle.std.proofs.lemmas.Result.{IfOk-weaker}
use Rattle.ring_versions.specs.Fresh.{Brings}
use Rattle.ring_versions.specs.Parts.{IsReordered}
use Rattle.ring_versions.specs.declared.version.Version.{Version}
use Rattle.ring_versions.proofs.Members.{neither}
use Rattle.ring_versions.proofs.Merging.{one_covered, one_covers, both_stay}
use Rattle.ring_versions.proofs.merge.merged_one.Goals as goal

pub returns-then-le-clause-ok : goal.returns-then-le-clause-ok
returns-then-le-clause-ok c =
    let held = c.args.held.now in
    let nothing = one_covered held c.args.other.now c.new.result c.new.ensures (c.le.ensures.0 c.if-le.true) in
    subst (λ (others : List Version). Brings (held ∷ []) others c.new.result) (sym c.requires) nothing

pub returns-then-le-2-clause-ok : goal.returns-then-le-2-clause-ok
returns-then-le-2-clause-ok c =
    let held = c.args.held.now in
    let other = c.args.other.now in
    let others = c.args.others.now in
    let taken = one_covers held other (λ le. neither c.le.result c.if-le.false (c.le.ensures.1 le)) (c.le-2.ensures.0 c.if-le-2.true) in
    let all = subst (λ (vs : List Version). Brings (held ∷ []) vs vs) (sym c.requires) taken in
    IfOk-weaker c.try_copy.result (λ s. s ≡ others) (Brings (held ∷ []) others) (λ s e. subst (Brings (held ∷ []) others) (sym e) all) c.try_copy.ensures.same

pub returns-clause-ok : goal.returns-clause-ok
returns-clause-ok c =
    let held = c.args.held.now in
    let other = c.args.other.now in
    let list = c.push-2.new.self.items in
    let first : c.push.new.self.items ≡ other ∷ [] = (c.in_ok-push.ensures).items ∙ ap (λ (vs : List Version). vs ++ c.in_ok-try_copy.field-0 ∷ []) (c.in_ok-both.ensures).items ∙ ap (λ (v : Version). v ∷ []) (c.in_ok-try_copy.ensures).same in
    let both : list ≡ other ∷ held ∷ [] = (c.in_ok-push-2.ensures).items ∙ ap (λ (vs : List Version). vs ++ c.in_ok-try_copy-2.field-0 ∷ []) first ∙ ap (λ (v : Version). other ∷ v ∷ []) (c.in_ok-try_copy-2.ensures).same in
    let stay : (s : List Version) → IsReordered list s → Brings (held ∷ []) c.args.others.now s = λ s r.
    (let all = both_stay held other s (λ le. neither c.le.result c.if-le.false (c.le.ensures.1 le)) (λ le. neither c.le-2.result c.if-le-2.false (c.le-2.ensures.1 le)) (subst (λ (vs : List Version). IsReordered vs s) both r) in
    subst (λ (others : List Version). Brings (held ∷ []) others s) (sym c.requires) all) in
    IfOk-weaker c.of_list.result (IsReordered list) (Brings (held ∷ []) c.args.others.now) stay c.of_list.ensures.same
