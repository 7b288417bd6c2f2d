use Rattle.std.proofs.Common.{List, [], sym, subst}
use Rattle.ring_clock.specs.declared.entry.Entry.{Entry}
use Rattle.ring_versions.specs.declared.version.Version.{Version}
use Rattle.ring_versions.specs.Raised.{RaisesTo, IsClockIn}
use Rattle.ring_versions.specs.Versions.{IsMerge}
use Rattle.ring_versions.proofs.Raised.{join_merged, raised_by_join}
use Rattle.ring_versions.proofs.found.Found.join_with.Goals as goal

pub returns-clause-ok : goal.returns-clause-ok
returns-clause-ok c all merged =
    let held = c.self.inside.versions in
    let more = c.args.more.now in
    let join = c.in_ok-join.join in
    let whole = c.raise.new.self in
    let was = subst (λ (d : List Entry). RaisesTo [] (IsClockIn held) d) (sym c.in_ok-join.ensures.same) c.self.invariant in
    let both = subst (λ (xs : List Version). IsMerge xs more all) (sym c.self.view_is) merged in
    join_merged held more all join whole both was (raised_by_join join whole c.in_ok-join-2.field-0 more c.in_ok-raise.ensures.ok c.in_ok-join-2.ensures.ok)
