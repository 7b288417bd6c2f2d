use Rattle.plan_stage.proofs.Gathering.{gathered-alike}
use Rattle.plan_stage.proofs.Enough.{concerned-from}
use Rattle.plan_stage.proofs.concerned.concerned.Goals as goal

pub returns-clause-ok : goal.returns-clause-ok
returns-clause-ok c =
    let ring = c.args.ring.now in
    let plan = c.args.plan.now in
    let p = c.args.partition in
    let old = c.in_ok-numbers.numbers.items in
    let new = c.put_in_order.new.numbers.items in
    concerned-from ring plan p new c.requires.suits c.put_in_order.ensures.ascending (gathered-alike ring plan p old new c.put_in_order.ensures.same c.in_ok-numbers.ensures.ok)
