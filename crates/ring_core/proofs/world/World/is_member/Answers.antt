use Rattle.std.proofs.Common.{◌∙◌}
use Rattle.store_parts.proofs.NodesNow.{nodes_meet}
use Rattle.ring_core.specs.World.{ring_of, plan_of}
use Rattle.ring_core.proofs.world.World.is_member.Goals as goal

pub returns : goal.returns
returns c w m = c.is_member.ensures ∙ (nodes_meet (ring_of c.args.self.now) (plan_of c.args.self.now) c.args.self.now.parts.nodes w m.nodes).members c.args.node.0
