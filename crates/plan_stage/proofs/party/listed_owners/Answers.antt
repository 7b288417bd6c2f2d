use Rattle.std.proofs.Common.{◌<◌, ◌≤◌, length, arith}
use Rattle.plan_stage.proofs.Copies.{owners_more}
use Rattle.plan_stage.proofs.party.listed_owners.Goals as goal

pub loop-k-preserved : goal.loop-k-preserved
loop-k-preserved c =
    let some : 0 < c.loop-k.k = omega arith in
    let within : c.loop-k.k ≤ length c.args.from.now = omega arith in
    let owner = rw c.from.ensures at c.in_ok-add_owner.ensures.ok in
    owners_more c.args.before.now.ring.now c.args.before.now.plan.now c.args.before.now.step c.args.partition c.args.from.now c.loop-k.k c.loop-k.party.keys c.add_owner.new.party.keys some within owner c.loop-k.invariant
