use Rattle.std.proofs.Common.{◌≡◌, ◌++◌, map, take}
use Rattle.texts.specs.Parts.{text_of}
use Rattle.ring_table.specs.Spelling.{rows_lines}
use Rattle.ring_table.proofs.writing.push_rows.Given as goal

abbrev pub invariant-loop-partition : goal.invariant-loop-partition
invariant-loop-partition l = l.out.items ≡ l.fn.out.items ++ text_of (rows_lines (map (λ y. y.name) l.nodes) 0 (take l.partition l.rows))
