use Rattle.texts.proofs.Lates.{at-mapped}
use Rattle.plan_cert.specs.Said.{chain_said}
use Rattle.plan_cert.specs.Reading.{chain_at}
use Rattle.plan_cert.proofs.CertLates.{chain-at, chain-said}
use Rattle.plan_cert.proofs.lines.chain_line.Goals as goal

pub returns-clause-small : goal.returns-clause-small
returns-clause-small c = (chain-said c.args.ring.now c.n-slots.ensures.valid c.args.seen.now c.args.fields.number c.args.fields.fields c.judge_chain.result c.judge_chain.ensures).0

pub returns-clause-room : goal.returns-clause-room
returns-clause-room c = (chain-said c.args.ring.now c.n-slots.ensures.valid c.args.seen.now c.args.fields.number c.args.fields.fields c.judge_chain.result c.judge_chain.ensures).1

pub returns-clause-at : goal.returns-clause-at
returns-clause-at c = at-mapped c.args.fields.number chain_said c.judge_chain.result (chain_at c.args.ring.now c.args.seen.now c.args.fields.number c.args.fields.fields) c.judge_chain.ensures (chain-at c.args.ring.now c.args.seen.now c.args.fields.number c.args.fields.fields)
