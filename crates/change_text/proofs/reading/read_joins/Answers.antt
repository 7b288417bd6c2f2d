use Rattle.std.proofs.Common.{codes, sym, ◌∙◌}
use Rattle.texts.specs.Left.{is_word}
use Rattle.texts.proofs.Lates.{late-here, many-late}
use Rattle.change_text.specs.Reading.{join_at, joins_from}
use Rattle.change_text.proofs.ChangeLates.{join-at}
use Rattle.change_text.proofs.reading.read_joins.Goals as goal

pub returns-in_err-join-clause-late : goal.returns-in_err-join-clause-late
returns-in_err-join-clause-late c =
    let line = rw c.in_ok-fields.ensures.found.0 at c.in_ok-node.ensures.value in
    late-here 1 c.from_residual-in_err-join.result c.args.lines.now c.next.new.self (joins_from c.args.ring.now c.args.draft.now.joins c.args.lines.now)
    (many-late (is_word (codes "join")) (join_at c.args.ring.now) (join-at c.args.ring.now) c.joins.draft.joins c.args.lines.now c.joins.lines c.next.new.self c.in_ok-fields.fields.fields c.in_ok-node.node _ (sym c.begins.ensures ∙ c.joins-test.true) c.in_ok-fields.ensures.found.1 (sym line) c.joins.invariant.forward c.joins.invariant.rest)
