use Rattle.ring_table.specs.Reading.{row_at}
use Rattle.ring_table.proofs.RingForm.{row_line}
use Rattle.ring_table.proofs.row.row_line.Goals as goal

pub returns-clause-at : goal.returns-clause-at
unfolding row_at
returns-clause-at c = rw c.judge.ensures ((row_line c.args.declared.now c.args.slots c.args.partition).at c.args.fields.number c.args.fields.fields)
