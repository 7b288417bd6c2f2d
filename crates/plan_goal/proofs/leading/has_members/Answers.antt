use Rattle.std.proofs.Common.{◌∙◌, sym}
use Rattle.plan_goal.specs.Reached.{member_after, member_wanted}
use Rattle.plan_goal.proofs.Turned.{one-more, same-answer}
use Rattle.plan_goal.proofs.leading.has_members.Goals as goal

pub nodes-preserved : goal.nodes-preserved
nodes-preserved c =
    let aim = c.args.aim.now in
    one-more (member_after aim.ring.now c.args.plan.now) (member_wanted aim.ring.now aim.wanted.now aim.dead.now) c.nodes.number c.nodes.invariant
    (sym c.is_member_after.ensures ∙ same-answer c.is_member_after.result c.is_member_wanted.result c.if-is_member_after-is_member_wanted.false ∙ c.is_member_wanted.ensures)
