use Rattle.std.proofs.Common.{◌≡◌, take}
use Rattle.ring_table.specs.Changed.{with_members}
use Rattle.ring_table.proofs.changed.copy_nodes.Given as goal

abbrev pub invariant-loop-place : goal.invariant-loop-place
invariant-loop-place l = l.copies.items ≡ take l.place (with_members l.nodes l.members)
