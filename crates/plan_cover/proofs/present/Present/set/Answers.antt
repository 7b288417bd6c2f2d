use Rattle.plan_cover.proofs.Placed.{kept-set}
use Rattle.plan_cover.proofs.present.Present.set.Goals as goal

pub returns-clause-kept : goal.returns-clause-kept
returns-clause-kept c = λ s. kept-set c.args.self.now.slots.items c.place_of.result s c.args.slot c.args.serving c.place_of.ensures c.requires.index c.requires.room
