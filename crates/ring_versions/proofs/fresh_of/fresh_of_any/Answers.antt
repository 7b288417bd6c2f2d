use Rattle.std.proofs.Common.{◌≡◌, ◌∷◌, ◌++◌, [], sym, subst}
use Rattle.std.proofs.lemmas.List.{append-nil}
use Rattle.ring_versions.specs.Shared.{looked_at}
use Rattle.ring_versions.specs.declared.version.Version.{Version}
use Rattle.ring_versions.proofs.Members.{neither}
use Rattle.ring_versions.proofs.Merging.{fresh_old, fresh_new, sift_more}
use Rattle.ring_versions.proofs.Reordered.{as_they_were}
use Rattle.ring_versions.proofs.fresh_of.fresh_of_any.Goals as goal

pub versions-preserved-in_ok-push : goal.versions-preserved-in_ok-push
versions-preserved-in_ok-push c =
    let held = looked_at c.args.held in
    let x = c.in-Some.version.now in
    let out = c.versions.out.items in
    let put : c.push.new.self.items ≡ out ++ x ∷ [] = subst (λ (v : Version). c.push.new.self.items ≡ out ++ v ∷ []) (c.in_ok-try_copy.ensures).same (c.in_ok-push.ensures).items in
    let new = fresh_new held x (λ h. neither c.covers.result c.if-not-covers.true (c.covers.ensures.1 h)) in
    sift_more held (looked_at c.args.versions) c.versions.walk out (x ∷ []) c.next.new.self (x ∷ []) c.push.new.self.items c.requires (c.in-Some.ensures) new (as_they_were (out ++ x ∷ []) c.push.new.self.items (sym put)) c.versions.invariant

pub versions-preserved : goal.versions-preserved
versions-preserved c =
    let held = looked_at c.args.held in
    let x = c.in-Some.version.now in
    let out = c.versions.out.items in
    sift_more held (looked_at c.args.versions) c.versions.walk out (x ∷ []) c.next.new.self [] out c.requires (c.in-Some.ensures) (fresh_old held x (c.covers.ensures.0 c.if-not-covers.false)) (as_they_were (out ++ []) out (append-nil out)) c.versions.invariant
