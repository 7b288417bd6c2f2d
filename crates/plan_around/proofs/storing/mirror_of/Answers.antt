use Rattle.std.proofs.Common.{sym}
use Rattle.plan_around.proofs.Comparing.{mirror_is, not_some}
use Rattle.plan_around.proofs.storing.mirror_of.Goals as goal

pub returns-in-Some : goal.returns-in-Some
returns-in-Some c w m e = mirror_is c.nodes_of.result c.in-Some.field-0-0 c.in-Some.mirror _ c.in-Some.is (c.nodes_of.ensures w m e)

pub returns-in-None : goal.returns-in-None
returns-in-None c w m e = absurd (not_some c.nodes_of.result _ (sym c.in-None.is) (c.nodes_of.ensures w m e))
