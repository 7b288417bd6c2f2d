-- A ring is read only from its one text.
use Rattle.std.proofs.Common.{[], length, refl, arith, lt-ltb, ltb-true}
use Rattle.texts.proofs.Items.{IsPart-as}
use Rattle.texts.proofs.Forms.{IsPart, Any, each-few}
use Rattle.ring_table.proofs.Terms.{RingValue, IsRing}
use Rattle.ring_table.specs.Spelling.{ring_lines}
use Rattle.ring_table.specs.Reading.{format_at, space_at, loss_at, quorum_at, second_at, allowance_at, node_at, nodes_at, head_at, body_at, ring_at}
use Rattle.ring_table.proofs.RingForm.{node_line, new-parts, parts-new, ring_form}
pub use Rattle.ring_table.proofs.RowLaws.{name_at-plain}

-- what the form allows is a ring
ring-is : (v : RingValue) → ring_form.allowed v → IsRing v
ring-is v p =
    let new = new-parts v.format [] v.nodes p.1.0.0 in
    record {
      format = p.0.0.1;
      space = p.0.1.0;
      slots = p.0.1.1.0;
      loss = p.0.1.1.1.0;
      quorum = p.0.1.1.1.1;
      some_node = ltb-true 0 (length v.nodes) p.1.0.1;
      nodes = each-few (λ seen. (node_line {W = Unit {0}} v.format seen).allowed) 1024 (λ seen x q. ltb-true (length seen) 1024 q.0.0.0.0) [] v.nodes 1024
          (omega arith) p.1.0.0;
      each_node = new.0;
      names = new.1;
      partitions = p.1.1.0.0;
      rows = p.1.1.0.1;
    }

pub is-ring : (v : RingValue) → IsRing v → ring_form.allowed v
is-ring v r = (
  ((tt, r.format), (r.space, (r.slots, (r.loss, r.quorum)))),
  ((parts-new v.format [] v.nodes (omega (arith, r.nodes)) r.each_node r.names, lt-ltb 0 (length v.nodes) r.some_node), ((r.partitions, r.rows), tt)),
)

-- the definitions are the form, by computing
pub ring-part : IsPart Any ring_at ring_lines IsRing
unfolding ring_at head_at body_at format_at space_at quorum_at loss_at nodes_at node_at allowance_at second_at
ring-part = IsPart-as Any ring_form.read ring_form.spell ring_lines ring_form.allowed IsRing (λ v. refl) ring-is is-ring (ring_form.exact tt)
