use Rattle.change_text.proofs.ChangeLaws.{leave-small}
use Rattle.change_text.proofs.ChangeLates.{leave-at}
use Rattle.change_text.proofs.lines.leave_line.Goals as goal

pub returns-clause-small : goal.returns-clause-small
returns-clause-small c = leave-small c.args.ring.now c.n-slots.ensures.valid c.args.draft.now.joins c.args.draft.now.leaves c.args.fields.number c.args.fields.fields c.judge_leave.result c.judge_leave.ensures

pub returns-clause-at : goal.returns-clause-at
returns-clause-at c = rw c.judge_leave.ensures (leave-at c.args.ring.now c.args.draft.now.joins c.args.draft.now.leaves c.args.fields.number c.args.fields.fields)
