use Rattle.std.proofs.Common.{◌++◌, [], List, sym, subst}
use Rattle.ring_versions.specs.Chunks.{all_of}
use Rattle.ring_versions.specs.Parts.{IsReordered}
use Rattle.ring_versions.specs.Raised.{RaisesTo, IsClockIn}
use Rattle.ring_versions.specs.declared.version.Version.{Version}
use Rattle.ring_versions.proofs.Raised.{join_reordered}
use Rattle.ring_versions.proofs.versions.Versions.of_list.Goals as goal

pub of_left-requires-clause-join : goal.of_left-requires-clause-join
of_left-requires-clause-join c =
    let join = c.in_ok-join_of.field-0 in
    let list = c.args.list.items in
    let made = c.put_all.new.made.items in
    let put = subst (λ (cs : List (List Version)). IsReordered (all_of cs ++ c.as_slice.result.now) (all_of made)) c.new-made.ensures.items (c.in_ok-put_all.ensures).ok in
    let its = subst (λ (vs : List Version). RaisesTo [] (IsClockIn vs) join) c.as_slice-2.ensures.value (c.in_ok-join_of.ensures).ok in
    subst (λ (cs : List (List Version)). RaisesTo [] (IsClockIn (all_of cs ++ all_of made)) join) (sym c.new-kept.ensures.items) (join_reordered join list (all_of made) (subst (λ (vs : List Version). IsReordered vs (all_of made)) c.as_slice.ensures.value put) its)
