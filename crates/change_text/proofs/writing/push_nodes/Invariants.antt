use Rattle.std.proofs.Common.{◌≡◌, ◌++◌, map, take}
use Rattle.texts.specs.Parts.{text_of}
use Rattle.ring_table.specs.Value.{names_of}
use Rattle.change_text.specs.Spelling.{node_fields}
use Rattle.change_text.proofs.writing.push_nodes.Given as goal

abbrev pub invariant-loop-node : goal.invariant-loop-node
invariant-loop-node l = l.out.items ≡ l.fn.out.items ++ text_of (map (node_fields l.word (names_of l.ring)) (take l.node-index l.nodes))
