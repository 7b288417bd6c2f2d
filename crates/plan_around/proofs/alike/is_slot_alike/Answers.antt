use Rattle.std.proofs.Common.{◌∙◌, sym}
use Rattle.plan_around.proofs.Comparing.{same_node}
use Rattle.plan_around.proofs.alike.is_slot_alike.Goals as goal

pub returns : goal.returns
returns c t w u m n = (
  (sym (c.owner-other.ensures.now u n) ∙ sym (same_node c.owner-owner.result c.owner-other.result c.if-owner-other.false)) ∙ c.owner-owner.ensures.now w m,
  c.is_mirror_alike.ensures t w u m n,
)
