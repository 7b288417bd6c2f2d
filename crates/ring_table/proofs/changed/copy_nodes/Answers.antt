use Rattle.std.proofs.Common.{◌≡◌, ◌≤◌, length, ◌∙◌, arith}
use Rattle.std.proofs.lemmas.List.{take_all}
use Rattle.ring_names.proofs.InLists.{get_lent}
use Rattle.ring_table.specs.Changed.{with_members}
use Rattle.ring_table.proofs.Changing.{members-length, nodes-next}
use Rattle.ring_table.proofs.changed.copy_nodes.Goals as goal

pub loop-place-preserved : goal.loop-place-preserved
loop-place-preserved c =
    let here = get_lent c.args.nodes.now c.loop-place.place c.index-nodes-place.result c.loop-place-test.true c.index-nodes-place.is in
    let name : c.from_vec.result ≡ c.index-nodes-place.result.name = c.from_vec.ensures ∙ c.in_ok-name.ensures.items ∙ c.as_slice.ensures in
    rw (c.in_ok-push.ensures.items, name, c.unwrap_or.ensures, c.flag_at.ensures) (nodes-next c.args.nodes.now c.args.members.now c.loop-place.place c.index-nodes-place.result c.loop-place.copies.items here c.loop-place.invariant c.loop-place-test.true)

pub returns : goal.returns
returns c =
    let far : length (with_members c.args.nodes.now c.args.members.now) ≤ c.loop-place.place = rw (members-length c.args.nodes.now c.args.members.now) (omega (arith, c.loop-place-test.false)) in
    c.loop-place.invariant ∙ take_all c.loop-place.place (with_members c.args.nodes.now c.args.members.now) far
