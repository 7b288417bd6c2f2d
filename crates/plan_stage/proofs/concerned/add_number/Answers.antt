use Rattle.plan_stage.proofs.Gathering.{push-grows, push-has}
use Rattle.plan_stage.proofs.concerned.add_number.Goals as goal

pub returns-clause-grows : goal.returns-clause-grows
returns-clause-grows c = push-grows c.args.plan.now c.args.number c.args.numbers.now.items c.push.new.self.items c.requires c.in_ok-push.ensures.items

pub returns-clause-added : goal.returns-clause-added
returns-clause-added c = push-has c.args.number c.args.numbers.now.items c.push.new.self.items c.in_ok-push.ensures.items
