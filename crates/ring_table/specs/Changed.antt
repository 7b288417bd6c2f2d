-- A ring with other owners and members.
use Rattle.std.specs.Prelude.{Bool, List, [], ◌∷◌}
use Rattle.ring_names.specs.declared.ids.NodeId.{NodeId}
use Rattle.ring_table.specs.declared.node.Node.{Node}
use Rattle.ring_table.specs.Value.{RingValue}

-- the nodes, those members whose flags say so; a node without a flag stays what it is
unfoldable pub with_members : List Node → List Bool → List Node
with_members [] ms = []
with_members (x ∷ xs) [] = x ∷ xs
with_members (x ∷ xs) (m ∷ ms) = record x { is_member = m } ∷ with_members xs ms

-- the ring whose slots these rows own, and whose members the flags name, by number
abbrev pub changed : RingValue → List (List NodeId) → List Bool → RingValue
changed ring rows members = record ring { nodes = with_members ring.nodes members; owners = rows }
