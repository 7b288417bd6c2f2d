use Rattle.std.proofs.Common.{◌≡◌, true, take}
use Rattle.std.specs.List.{list_all}
use Rattle.plan_cert.specs.Valid.{is_fact}
use Rattle.plan_cert.proofs.cert.are_facts.Given as goal

abbrev pub invariant-loop-place : goal.invariant-loop-place
invariant-loop-place l = list_all is_fact (take l.place l.facts) ≡ true
