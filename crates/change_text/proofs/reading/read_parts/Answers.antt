use Rattle.texts.proofs.Lates.{late-part}
use Rattle.change_text.specs.Reading.{change_at}
use Rattle.change_text.proofs.ChangeLates.{change-joins, change-leaves, behind-joins}
use Rattle.change_text.proofs.reading.read_parts.Goals as goal

pub returns-in_err-read_joins-clause-late : goal.returns-in_err-read_joins-clause-late
returns-in_err-read_joins-clause-late c =
    let late = rw c.new-draft.ensures at c.in_err-read_joins.ensures.late in
    late-part 2 c.from_residual-in_err-read_joins.result c.in_err-read_joins.field-0.0 c.args.lines.now c.read_joins.new.lines (change_at c.args.ring.now c.args.lines.now) c.from_residual-in_err-read_joins.ensures.1 late
    (λ p. (rw c.in_ok-header.ensures.line at p.0, change-joins c.args.ring.now c.args.lines.now c.header.new.lines c.in_ok-header.field-0 c.in_ok-header.ensures.read c.read_joins.new.lines.line p.1))

pub returns-in_err-read_leaves-clause-late : goal.returns-in_err-read_leaves-clause-late
returns-in_err-read_leaves-clause-late c =
    let start = c.in_ok-header.ensures.read in
    let joins = rw c.new-draft.ensures at c.in_ok-read_joins.ensures.read in
    let late = rw c.in_ok-read_joins.ensures.leaves at c.in_err-read_leaves.ensures.late in
    let k = c.read_leaves.new.lines.line in
    late-part 2 c.from_residual-in_err-read_leaves.result c.in_err-read_leaves.field-0.0 c.args.lines.now c.read_leaves.new.lines (change_at c.args.ring.now c.args.lines.now) c.from_residual-in_err-read_leaves.ensures.1 late
    (λ p. (
      rw c.in_ok-header.ensures.line at (behind-joins c.args.ring.now c.args.lines.now c.header.new.lines c.in_ok-header.field-0 start k c.read_joins.new.lines c.read_joins.new.draft.joins joins p.0),
      change-leaves c.args.ring.now c.args.lines.now c.header.new.lines c.in_ok-header.field-0 start k c.read_joins.new.lines c.read_joins.new.draft.joins joins p.1,
    ))
