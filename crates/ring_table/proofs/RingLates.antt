-- Reading a ring does not go back, and each of its faults is at a line that was reached.
use Rattle.std.proofs.Common.{ℕ, List}
use Rattle.texts.proofs.Forms.{At, Advances}
use Rattle.ring_table.specs.declared.node.Node.{Node}
use Rattle.ring_table.specs.Reading.{format_at, space_at, quorum_at, loss_at, second_at, allowance_at, node_at, nodes_at, head_at, body_at, ring_at}
use Rattle.ring_table.proofs.RingForm.{format_line, space_line, quorum_line, node_line, nodes_form, ring_form}
pub use Rattle.ring_table.proofs.NodesLaws.{judges-declared}
pub use Rattle.ring_table.proofs.RingForm.{rows-on}

-- ---- lines

pub format-at : (k : ℕ) (fields : List (List ℕ)) → At k (format_at k fields)
unfolding format_at
format-at = (format_line {W = Unit {0}}).at

pub space-at : (k : ℕ) (fields : List (List ℕ)) → At k (space_at k fields)
unfolding space_at
space-at = (space_line {W = Unit {0}}).at

pub quorum-at : (format k : ℕ) (fields : List (List ℕ)) → At k (quorum_at format k fields)
unfolding quorum_at loss_at
quorum-at format = (quorum_line {W = Unit {0}} format).at

pub node-at : (format : ℕ) (seen : List Node) (k : ℕ) (fields : List (List ℕ)) → At k (node_at format seen k fields)
unfolding node_at allowance_at second_at
node-at format seen = (node_line {W = Unit {0}} format seen).at

-- ---- sections

pub nodes-on : (format : ℕ) → Advances (nodes_at format)
unfolding nodes_at node_at allowance_at second_at
nodes-on format = (nodes_form {W = Unit {0}} format).advances

pub ring-on : Advances ring_at
unfolding ring_at head_at body_at format_at space_at quorum_at loss_at nodes_at node_at allowance_at second_at
ring-on = ring_form.advances
