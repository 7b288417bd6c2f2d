use Rattle.std.proofs.Common.{◌≡◌, ◌∙◌, ◌∷◌, ◌++◌, [], List, sym, ap, subst}
use Rattle.std.proofs.lemmas.List.{append-nil}
use Rattle.ring_versions.specs.declared.version.Version.{Version}
use Rattle.ring_versions.proofs.Members.{neither}
use Rattle.ring_versions.proofs.Merging.{fresh_old, fresh_new, sift_more}
use Rattle.ring_versions.proofs.Reordered.{as_they_were}
use Rattle.ring_versions.proofs.fresh_of.fresh_of_list.Goals as goal

pub versions-preserved-in_ok-push : goal.versions-preserved-in_ok-push
versions-preserved-in_ok-push c =
    let held = c.args.held.now in
    let x = c.in-Some.version.now in
    let out = c.versions.out.items in
    let put : c.push.new.self.items ≡ out ++ x ∷ [] = subst (λ (v : Version). c.push.new.self.items ≡ c.make_room.new.out.items ++ v ∷ []) (c.in_ok-try_copy.ensures).same (c.in_ok-push.ensures).items ∙ ap (λ (vs : List Version). vs ++ x ∷ []) c.make_room.ensures in
    let new = fresh_new held x (λ h. neither c.is_among.result c.if-not-is_among.true (c.is_among.ensures.1 h)) in
    sift_more held c.args.versions.now c.versions.rest.now out (x ∷ []) c.in-Some.later.now (x ∷ []) c.push.new.self.items c.requires (c.in-Some.ensures).cases.0 new (as_they_were (out ++ x ∷ []) c.push.new.self.items (sym put)) c.versions.invariant

pub versions-preserved : goal.versions-preserved
versions-preserved c =
    let held = c.args.held.now in
    let x = c.in-Some.version.now in
    let out = c.versions.out.items in
    sift_more held c.args.versions.now c.versions.rest.now out (x ∷ []) c.in-Some.later.now [] out c.requires (c.in-Some.ensures).cases.0 (fresh_old held x (c.is_among.ensures.0 c.if-not-is_among.false)) (as_they_were (out ++ []) out (append-nil out)) c.versions.invariant
