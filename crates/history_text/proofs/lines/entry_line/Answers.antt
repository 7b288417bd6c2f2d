use Rattle.texts.proofs.Lates.{at-mapped}
use Rattle.history_text.specs.Said.{said_of}
use Rattle.history_text.proofs.EntryLaws.{next-if, said-at}
use Rattle.history_text.proofs.lines.entry_line.Goals as goal

pub returns-clause-room : goal.returns-clause-room
returns-clause-room c = (next-if c.args.ring.now c.args.history.now c.args.names.now c.args.fields.number c.args.fields.fields c.judge_line.result c.judge_line.ensures).0

pub returns-clause-fits : goal.returns-clause-fits
returns-clause-fits c = (next-if c.args.ring.now c.args.history.now c.args.names.now c.args.fields.number c.args.fields.fields c.judge_line.result c.judge_line.ensures).1

pub returns-clause-at : goal.returns-clause-at
returns-clause-at c = at-mapped c.args.fields.number said_of c.judge_line.result _ c.judge_line.ensures (said-at c.args.ring.now c.args.history.now c.args.names.now c.args.fields.number c.args.fields.fields)
