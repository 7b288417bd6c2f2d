use Rattle.std.proofs.Common.{◌≡◌, ◌<◌, length, map, Some, ap, ◌∙◌, slice_get, option_map}
use Rattle.std.proofs.lemmas.List.{length-map}
use Rattle.std.proofs.lemmas.Option.{slice_get-map}
use Rattle.ring_names.specs.Names.{with_name}
use Rattle.ring_names.proofs.InLists.{get_lent}
use Rattle.ring_table.specs.declared.node.Node.{Node}
use Rattle.ring_table.proofs.Changing.{names-next}
use Rattle.ring_table.proofs.changed.names_of.Goals as goal

pub loop-node-preserved : goal.loop-node-preserved
loop-node-preserved c =
    let names = map (λ (x : Node). x.name) c.args.nodes.now in
    let lt : c.loop-node.node-index < length names = simp length-map c.loop-node-test.true in
    let here : slice_get names c.loop-node.node-index ≡ Some c.node-item.result.name = slice_get-map (λ (x : Node). x.name) c.args.nodes.now c.loop-node.node-index
    ∙ ap (option_map (λ (x : Node). x.name)) (get_lent c.args.nodes.now c.loop-node.node-index c.node-item.result c.loop-node-test.true c.node-item.is) in
    c.in_ok-add.ensures.names ∙ ap (with_name c.loop-node.names) c.as_slice.ensures
    ∙ names-next names c.loop-node.names c.loop-node.node-index c.node-item.result.name c.requires.new here lt c.loop-node.invariant
