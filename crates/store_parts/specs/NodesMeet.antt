-- What the nodes that are kept say of a world.
use Rattle.std.specs.Prelude.{◌≡◌, ℕ, List}
use Rattle.ring_table.specs.Value.{RingValue}
use Rattle.plan_text.specs.declared.step.Planned.{Planned}
use Rattle.plan_runs.specs.World.{World, is_member_now}
use Rattle.store_parts.specs.declared.nodes.NodeNow.{NodeNow}
use Rattle.store_parts.specs.Nodes.{is_up_at, is_member_at}

-- they tell which nodes are up and which are members
pub record NodesMeet (ring : RingValue) (plan : List Planned) (nodes : List NodeNow) (w : World) : Type 0 where
  pub up : (x : ℕ) → is_up_at nodes x ≡ w.up x
  pub members : (x : ℕ) → is_member_at nodes x ≡ is_member_now ring plan w x
