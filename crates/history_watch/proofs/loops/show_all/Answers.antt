use Rattle.std.proofs.Common.{◌≤◌, ◌+◌, refl, arith}
use Rattle.history_watch.proofs.Looped.{on_any, shows_part}
use Rattle.history_watch.proofs.loops.show_all.Goals as goal

pub returns-in_err-show-clause-part : goal.returns-in_err-show-clause-part
returns-in_err-show-clause-part g c =
    let test = c.counts-test.true in
    let few : c.counts.count + 1 ≤ c.args.after = omega arith in
    on_any c.from_residual.result _ (shows_part c.args.every c.args.before c.counts.count (c.counts.count + 1) c.args.after (g.W.Write.contents c.args.output.now) (g.W.Write.contents c.counts.output) (g.W.Write.contents c.show.new.output) refl few
    c.counts.invariant.shows c.in_err-show.ensures.part)
