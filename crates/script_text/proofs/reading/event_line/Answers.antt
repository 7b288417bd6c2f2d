use Rattle.std.proofs.Common.{true}
use Rattle.script_text.proofs.ScriptForm.{heard-at}
use Rattle.script_text.proofs.ScriptLates.{next-if}
use Rattle.script_text.proofs.reading.event_line.Goals as goal

pub returns-clause-next : goal.returns-clause-next
returns-clause-next c = next-if c.args.ring.now c.args.script.now c.args.names.now c.args.fields.number c.args.fields.fields _ c.judge_line.ensures

pub returns-clause-at : goal.returns-clause-at
returns-clause-at c = rw c.judge_line.ensures (heard-at true c.args.ring.now c.args.script.now c.args.names.now c.args.fields.number c.args.fields.fields)
