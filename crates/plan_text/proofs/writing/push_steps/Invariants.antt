use Rattle.std.proofs.Common.{◌≡◌, ◌++◌, map, take}
use Rattle.texts.specs.Parts.{text_of}
use Rattle.ring_table.specs.Value.{names_of}
use Rattle.plan_text.specs.Spelling.{step_fields}
use Rattle.plan_text.proofs.writing.push_steps.Given as goal

abbrev pub invariant-loop-n : goal.invariant-loop-n
invariant-loop-n l = l.out.items ≡ l.fn.out.items ++ text_of (map (step_fields (names_of l.ring)) (take l.n l.plan))
