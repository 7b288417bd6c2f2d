use Rattle.plan_cert.proofs.CertLates.{fact-at, fact-said}
use Rattle.plan_cert.proofs.lines.fact_line.Goals as goal

pub returns-clause-small : goal.returns-clause-small
returns-clause-small c = (fact-said c.args.seen.now c.args.fields.number c.args.fields.fields c.judge_fact.result c.judge_fact.ensures).0

pub returns-clause-room : goal.returns-clause-room
returns-clause-room c = (fact-said c.args.seen.now c.args.fields.number c.args.fields.fields c.judge_fact.result c.judge_fact.ensures).1

pub returns-clause-at : goal.returns-clause-at
returns-clause-at c = rw c.judge_fact.ensures (fact-at c.args.seen.now c.args.fields.number c.args.fields.fields)
