use Rattle.ringplan_answers.proofs.Verdicts.{gives-answer}
use Rattle.ringplan_answers.proofs.bundle.plan_wanted.Goals as goal

pub returns-in-Ok : goal.returns-in-Ok
returns-in-Ok c =
    let p = c.in-Ok.found in
    let of = c.in-Ok.ensures in
    gives-answer c.args.wanted p.approved.ring p.approved.plan p.cert c.text.result of.ring of.proposed c.text.ensures.text c.text.ensures.memory
