use Rattle.std.proofs.Common.{◌≤◌, arith}
use Rattle.texts.proofs.Lates.{late-part, next-monotone, to-map}
use Rattle.texts.proofs.Forms.{to-first, to-second, past-next, ending}
use Rattle.ring_table.specs.Reading.{second_at, allowance_at, node_at, nodes_at, rows_at, body_at}
use Rattle.ring_table.proofs.RingForm.{tail_form, listed, list_form}
use Rattle.ring_table.proofs.RingLates.{nodes-on, rows-on}
use Rattle.ring_table.proofs.reading.read_body.Goals as goal

pub returns-in_err-declared-clause-late : goal.returns-in_err-declared-clause-late
unfolding body_at nodes_at node_at allowance_at second_at
returns-in_err-declared-clause-late c =
    let head = c.args.head in
    let s = c.args.lines.now in
    let k = c.read_nodes.new.lines.line in
    late-part 1 c.from_residual.result c.in_err-declared.field-0.0 s c.read_nodes.new.lines (body_at head s) c.from_residual.ensures.1 c.in_err-declared.ensures.late
    (λ p. (p.0, to-map listed (list_form head).read k s (to-first (nodes_at head.format) (λ nodes. (tail_form nodes head.quorum.n head.q).read) k s (λ nodes. (tail_form nodes head.quorum.n head.q).advances) p.1)))

pub returns-in_err-owners-clause-late : goal.returns-in_err-owners-clause-late
unfolding body_at nodes_at node_at allowance_at second_at
returns-in_err-owners-clause-late c =
    let head = c.args.head in
    let s = c.args.lines.now in
    let t = c.read_nodes.new.lines in
    let k = c.read_rows.new.lines.line in
    let nodes = c.in_ok-declared.declared in
    let read = c.in_ok-declared.ensures.read in
    late-part 1 c.from_residual-in_err-owners.result c.in_err-owners.field-0.0 s c.read_rows.new.lines (body_at head s) c.from_residual-in_err-owners.ensures.1 c.in_err-owners.ensures.late
    (λ p. (past-next (nodes_at head.format) (nodes-on head.format) s t nodes read k p.0, to-map listed (list_form head).read k s (to-second (nodes_at head.format) (λ x. (tail_form x head.quorum.n head.q).read) k s t nodes read (to-first (rows_at nodes head.quorum.n 0 head.q) (λ _. (ending {W = Unit {0}}).read) k t (λ _. (ending {W = Unit {0}}).advances) p.1))))

pub returns-clause-far : goal.returns-clause-far
returns-clause-far c =
    let nodes = (nodes-on c.args.head.format).on c.args.lines.now in
    let past_nodes : c.args.lines.now.line ≤ c.read_nodes.new.lines.line = rw c.in_ok-declared.ensures.read at nodes in
    let rows = (rows-on c.in_ok-declared.declared c.args.head.quorum.n 0 c.args.head.q).on c.read_nodes.new.lines in
    let past_rows : c.read_nodes.new.lines.line ≤ c.read_rows.new.lines.line = rw c.in_ok-owners.ensures.read at rows in
    let more = next-monotone c.args.lines.now.line c.read_rows.new.lines.line (omega arith) in
    let last = c.in_ok-end.ensures.line in
    omega arith
