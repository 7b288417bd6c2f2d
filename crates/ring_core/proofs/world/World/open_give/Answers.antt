use Rattle.ring_table.specs.declared.allowance.Side.TheVariants.{Give}
use Rattle.ring_core.proofs.TransfersTold.{count-now, count-most}
use Rattle.ring_core.proofs.world.World.open_give.Goals as goal

pub returns-clause-now : goal.returns-clause-now
returns-clause-now c = count-now c.args.self.now c.args.node.0 Give c.transfers.result c.transfers.ensures

pub returns-clause-most : goal.returns-clause-most
returns-clause-most c = count-most c.args.self.now c.args.node.0 Give c.transfers.result c.transfers.ensures
