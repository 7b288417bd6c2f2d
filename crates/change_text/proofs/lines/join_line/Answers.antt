use Rattle.change_text.proofs.ChangeLaws.{join-small}
use Rattle.change_text.proofs.ChangeLates.{join-at}
use Rattle.change_text.proofs.lines.join_line.Goals as goal

pub returns-clause-small : goal.returns-clause-small
returns-clause-small c = join-small c.args.ring.now c.n-slots.ensures.valid c.args.draft.now.joins c.args.fields.number c.args.fields.fields c.judge_join.result c.judge_join.ensures

pub returns-clause-at : goal.returns-clause-at
returns-clause-at c = rw c.judge_join.ensures (join-at c.args.ring.now c.args.draft.now.joins c.args.fields.number c.args.fields.fields)
