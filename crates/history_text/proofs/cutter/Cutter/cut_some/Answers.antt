use Rattle.std.proofs.Common.{◌+◌, List, length, refl, ap, subst, arith}
use Rattle.plan_runs.specs.declared.event.Entry.{Entry}
use Rattle.history_text.specs.State.{started}
use Rattle.history_text.specs.Cutter.{CutsMany}
use Rattle.history_text.proofs.Cuttings.{counted_first, cut_lines}
use Rattle.history_text.proofs.cutter.Cutter.cut_some.Goals as goal

pub keep_all-requires : goal.keep_all-requires
keep_all-requires c =
    let old = c.args.self.now in
    let k = c.in_ok-take_some.ensures.counted (length old.kept.cut.puts + length old.kept.cut.gets) (counted_first old c.requires.room) in
    let same = k.same in
    let few = k.few in
    let shown = ap started c.as_slice.ensures.value in
    omega arith

pub returns-clause-room : goal.returns-clause-room
returns-clause-room c =
    let old = c.args.self.now in
    let k = c.in_ok-take_some.ensures.counted (length old.kept.cut.puts + length old.kept.cut.gets) (counted_first old c.requires.room) in
    let same = k.same in
    let shown = ap started c.as_slice.ensures.value in
    let counts = c.in_ok-keep_all.ensures.ok.counts in
    record { none = c.clear.ensures.items; same = omega arith; few = k.few }

pub returns-clause-ok : goal.returns-clause-ok
returns-clause-ok c =
    let mid = c.take_some.new.self in
    cut_lines c.args.self.now _ mid _ _ c.in_ok-take_some.ensures.ok
    (subst (λ (es : List Entry). CutsMany c.args.self.now.kept c.keep_all.new.self mid.ring.now mid.writers es) c.as_slice.ensures.value c.in_ok-keep_all.ensures.ok)
    (record { ring = refl; writers = refl; line = refl; stage = refl; started = refl; none = c.clear.ensures.items })
