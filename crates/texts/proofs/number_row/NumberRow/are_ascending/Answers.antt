use Rattle.std.proofs.Common.{sym, ◌∙◌, ap, arith}
use Rattle.std.proofs.lemmas.Bool.{le-leb}
use Rattle.texts.specs.Numbers.{ascending}
use Rattle.texts.proofs.number_row.NumberRow.are_ascending.Goals as goal

pub returns-then-self-le-CAP : goal.returns-then-self-le-CAP
returns-then-self-le-CAP c =
    let kept = c.self.invariant in
    let small = sym (kept.bounded 4294967296 (omega arith)) ∙ le-leb _ _ c.if-self-le-CAP.true in
    kept.ordered small ∙ ap ascending c.self.view_is
