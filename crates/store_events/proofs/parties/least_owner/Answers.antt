use Rattle.std.proofs.Common.{◌<◌, ◌≤◌, length, arith}
use Rattle.store_parts.specs.Nodes.{is_up_at}
use Rattle.store_events.proofs.PartiesDown.{owners_next}
use Rattle.store_events.proofs.parties.least_owner.Goals as goal

pub loop-k-preserved : goal.loop-k-preserved
loop-k-preserved c =
    let a = c.args.parts.now in
    let some : 0 < c.loop-k.k = omega arith in
    let within : c.loop-k.k ≤ length c.args.from.now = omega arith in
    owners_next (is_up_at a.nodes) a.slots c.args.partition c.args.from.now c.loop-k.k c.owner.result c.loop-k.least c.with_down-least.result some within (rw c.from.ensures at c.owner.ensures) c.with_down-least.ensures c.loop-k.invariant
