use Rattle.std.proofs.Common.{◌∙◌, ◌++◌, List, ap}
use Rattle.std.proofs.lemmas.List.{append-nil}
use Rattle.ring_versions.specs.declared.version.Version.{Version}
use Rattle.ring_versions.specs.Chunks.{all_of}
use Rattle.ring_versions.proofs.Reordered.{all_of_more}
use Rattle.ring_versions.proofs.left.place_for.Goals as goal

pub returns-in_ok-push-in-None-clause-same : goal.returns-in_ok-push-in-None-clause-same
returns-in_ok-push-in-None-clause-same c =
    let made = c.args.made.now.items in
    ap all_of (c.in_ok-push-in-None.ensures).items ∙ all_of_more made c.new.result ∙ ap (λ (p : List Version). all_of made ++ p) c.new.ensures ∙ append-nil (all_of made)
