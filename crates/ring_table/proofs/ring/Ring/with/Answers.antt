use Rattle.std.proofs.Common.{◌≡◌, ◌∙◌, length, refl}
use Rattle.std.specs.List.{AllByRecursion}
use Rattle.ring_table.specs.Valid.{IsRow}
use Rattle.ring_table.specs.Changed.{with_members}
use Rattle.ring_table.proofs.Changing.{ring-changed}
use Rattle.ring_table.proofs.ring.Ring.with.Goals as goal

pub rebuild-requires : goal.rebuild-requires
rebuild-requires c =
    let ring = c.args.self.now in
    let nodes : c.in_ok-nodes.nodes.items ≡ with_members ring.nodes c.args.members.now = rw (c.nodes.ensures.value) at c.in_ok-nodes.ensures in
    let whole : length c.args.rows.now ≡ ring.q = c.if-not-whole.false ∙ c.q.ensures.value in
    let each : AllByRecursion (IsRow ring.n (with_members ring.nodes c.args.members.now)) c.args.rows.now
    = rw (c.n.ensures.value, c.as_slice.ensures.value, nodes) at (c.if-not-each.ensures.0 refl) in
    rw nodes (ring-changed ring c.args.rows.now c.args.members.now c.nodes.ensures.valid whole each)
