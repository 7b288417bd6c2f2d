use Rattle.std.proofs.Common.{◌≡◌, ◌++◌, map, take}
use Rattle.texts.specs.Parts.{text_of}
use Rattle.ring_table.specs.Value.{names_of}
use Rattle.plan_cert.specs.Spelling.{chain_fields}
use Rattle.plan_cert.proofs.writing.push_chains.Given as goal

abbrev pub invariant-loop-place : goal.invariant-loop-place
invariant-loop-place l = l.out.items ≡ l.fn.out.items ++ text_of (map (chain_fields (names_of l.ring)) (take l.place l.chains))
