use Rattle.std.proofs.Common.{◌≡◌, ◌++◌, map, take}
use Rattle.texts.specs.Parts.{text_of}
use Rattle.plan_cert.specs.Spelling.{fact_fields}
use Rattle.plan_cert.proofs.writing.push_facts.Given as goal

abbrev pub invariant-loop-place : goal.invariant-loop-place
invariant-loop-place l = l.out.items ≡ l.fn.out.items ++ text_of (map fact_fields (take l.place l.facts))
