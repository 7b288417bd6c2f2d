use Rattle.std.proofs.Common.{◌≡◌, ◌-◌, ◌≤◌}
use Rattle.ring_table.specs.Reading.{rows_at}
use Rattle.ring_table.proofs.RowLaws.{behind}
use Rattle.ring_table.proofs.row.read_rows.Given as goal

abbrev pub invariant-loop-partition : goal.invariant-loop-partition
invariant-loop-partition l = record {
  rest : behind l.rows.items (rows_at l.fn.declared l.slots l.partition (l.partitions - l.partition) l.lines) ≡ rows_at l.fn.declared l.slots 0 l.partitions l.fn.lines;
  forward : l.fn.lines.line ≤ l.lines.line;
}
