use Rattle.std.proofs.Common.{List, inr, subst}
use Rattle.ring_names.specs.declared.ids.NodeId.{NodeId}
use Rattle.plan_around.specs.Ends.{IsExcused}
use Rattle.plan_around.proofs.ending.ends_at.Goals as goal

pub returns-else-should_own : goal.returns-else-should_own
returns-else-should_own c = λ t w m.
    let it = c.args.it.now in
    inr (subst (λ (xs : List NodeId). IsExcused it.ring.now it.old.now w xs it.left.now c.args.partition) c.requires.ended.dead (c.is_excused.ensures t w m))
