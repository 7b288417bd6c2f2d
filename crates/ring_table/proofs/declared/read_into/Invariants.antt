use Rattle.std.proofs.Common.{◌≡◌, ◌-◌, ◌≤◌, length, codes}
use Rattle.texts.specs.Left.{is_word, many_from}
use Rattle.ring_table.specs.Reading.{node_at}
use Rattle.ring_table.proofs.declared.read_into.Given as goal

abbrev pub invariant-nodes : goal.invariant-nodes
invariant-nodes l = record {
  rest : many_from (is_word (codes "node")) (node_at l.format) l.declared l.lines.line l.lines.lines ≡ many_from (is_word (codes "node")) (node_at l.fn.format) l.fn.declared l.fn.lines.line l.fn.lines.lines;
  forward : l.fn.lines.line ≤ l.lines.line;
  few : length l.declared ≤ 1024;
}

abbrev pub decreases-nodes : goal.decreases-nodes
decreases-nodes l = 1024 - length l.declared
