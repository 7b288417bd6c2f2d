use Rattle.std.proofs.Common.{sym, ap, ◌∙◌, map}
use Rattle.history_laws.specs.Parts.{renumbered}
use Rattle.history_laws.proofs.Marked.{all_mine, take_past}
use Rattle.history_laws.proofs.marks.Marks.all.Goals as goal

pub returns : goal.returns
returns c = all_mine c.args.self.now c.args.wholes.now c.wholes.numbers.items (sym c.if-not-are_mine.ensures) (c.wholes.invariant ∙ ap (map (renumbered c.args.self.now)) (take_past c.wholes.whole-index c.args.wholes.now c.wholes-test.false))
