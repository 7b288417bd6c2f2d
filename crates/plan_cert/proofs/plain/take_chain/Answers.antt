use Rattle.texts.proofs.Lates.{next-after}
use Rattle.plan_cert.proofs.PlainLaws.{chains-taken}
use Rattle.plan_cert.proofs.plain.take_chain.Goals as goal

pub returns-in-Some-clause-read : goal.returns-in-Some-clause-read
returns-in-Some-clause-read c = λ _.
    let t = c.in-Some.ensures.taken in
    rw (c.go_on.ensures, c.bytes.ensures, t.2) (chains-taken c.args.ring.now c.n-slots.ensures.valid c.args.chains.now c.args.lines.now.line t.0 c.bytes.result.now c.in-Some.rest.now t.1 t.3)

pub returns-in-Some-clause-forward : goal.returns-in-Some-clause-forward
returns-in-Some-clause-forward c = rw c.go_on.ensures (next-after c.args.lines.now.line)
