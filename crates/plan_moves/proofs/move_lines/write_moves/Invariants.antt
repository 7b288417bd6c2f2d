use Rattle.std.proofs.Common.{◌≡◌, [], ◌++◌, drop}
use Rattle.ring_table.specs.Value.{names_of}
use Rattle.plan_moves.specs.MoveLines.{move_lines, moves_text}
use Rattle.plan_moves.proofs.move_lines.write_moves.Given as goal

abbrev pub invariant-loop-number : goal.invariant-loop-number
invariant-loop-number l = record {
  told : l.out.items ++ move_lines (names_of l.ring) l.plan l.number (drop l.number l.movement-items) ≡ moves_text l.ring l.plan;
  line : (l.line.before ≡ []) × (l.line.tokens ≡ []);
}
