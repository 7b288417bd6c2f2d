use Rattle.texts.proofs.Lates.{next-after}
use Rattle.plan_text.proofs.PlainLaws.{steps-taken}
use Rattle.plan_text.proofs.plain.take_plain.Goals as goal

pub returns-in-Some-clause-read : goal.returns-in-Some-clause-read
returns-in-Some-clause-read c = λ _.
    let t = c.in-Some.ensures.taken in
    rw (c.go_on.ensures, c.bytes.ensures, t.3) (steps-taken c.args.ring.now c.n-slots.ensures.valid c.args.plan.now c.args.lines.now.line t.0 c.bytes.result.now c.in-Some.rest.now t.1 t.2 t.4)

pub returns-in-Some-clause-forward : goal.returns-in-Some-clause-forward
returns-in-Some-clause-forward c = rw c.go_on.ensures (next-after c.args.lines.now.line)
