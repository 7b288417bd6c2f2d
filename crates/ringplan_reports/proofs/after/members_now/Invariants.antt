use Rattle.std.proofs.Common.{◌≡◌}
use Rattle.plan_runs.specs.World.{World}
use Rattle.ring_core.specs.World.{Meets, plan_of, ring_of}
use Rattle.ringplan_reports.specs.Studies.{members_now}
use Rattle.ringplan_reports.proofs.after.members_now.Given as goal

abbrev pub invariant-nodes : goal.invariant-nodes
invariant-nodes l = (w : World) → Meets l.store w → l.members.items ≡ members_now (ring_of l.store) (plan_of l.store) w l.node
