-- What a reader keeps of a line.
use Rattle.std.specs.Prelude.{List}
use Rattle.ring_names.specs.declared.ids.NodeId.{NodeId}
use Rattle.ring_table.specs.declared.node.Node.{Node}
use Rattle.ring_table.specs.declared.declared.NodeLine.{NodeLine}
use Rattle.ring_table.specs.declared.reading.Body.{Body}

-- the node that a line declares
abbrev pub node_of : NodeLine → Node
node_of x = record { name = x.name.now; allowance = x.allowance; is_member = x.is_member }

-- the nodes and the owners behind the head of a ring
abbrev pub body_of : Body → List Node × List (List NodeId)
body_of x = (x.declared, x.owners.items)
