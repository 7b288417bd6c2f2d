use Rattle.std.proofs.Common.{codes, sym, ◌∙◌}
use Rattle.texts.specs.Left.{is_word}
use Rattle.texts.proofs.Lates.{late-here, many-late}
use Rattle.change_text.specs.Reading.{leave_at, leaves_from}
use Rattle.change_text.proofs.ChangeLates.{leave-at}
use Rattle.change_text.proofs.reading.read_leaves.Goals as goal

pub returns-in_err-leave-clause-late : goal.returns-in_err-leave-clause-late
returns-in_err-leave-clause-late c =
    let line = rw (c.in_ok-fields.ensures.found.0, c.leaves.invariant.same_joins) at c.in_ok-node.ensures.value in
    late-here 1 c.from_residual-in_err-leave.result c.args.lines.now c.next.new.self (leaves_from c.args.ring.now c.args.draft.now.joins c.args.draft.now.leaves c.args.lines.now)
    (many-late (is_word (codes "leave")) (leave_at c.args.ring.now c.args.draft.now.joins) (leave-at c.args.ring.now c.args.draft.now.joins) c.leaves.draft.leaves c.args.lines.now c.leaves.lines c.next.new.self c.in_ok-fields.fields.fields c.in_ok-node.node _ (sym c.begins.ensures ∙ c.leaves-test.true) c.in_ok-fields.ensures.found.1 (sym line) c.leaves.invariant.forward c.leaves.invariant.rest)
