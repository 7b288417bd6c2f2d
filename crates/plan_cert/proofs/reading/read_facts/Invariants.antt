use Rattle.std.proofs.Common.{◌≡◌, ◌-◌, ◌≤◌, length, codes}
use Rattle.texts.specs.Left.{is_word, many_from}
use Rattle.plan_cert.specs.Reading.{fact_at}
use Rattle.plan_cert.proofs.reading.read_facts.Given as goal

abbrev pub invariant-facts : goal.invariant-facts
invariant-facts l = record {
  rest : many_from (is_word (codes "fact")) fact_at l.facts l.lines.line l.lines.lines ≡ many_from (is_word (codes "fact")) fact_at l.fn.facts l.fn.lines.line l.fn.lines.lines;
  forward : l.fn.lines.line ≤ l.lines.line;
  few : length l.facts ≤ 262144;
}

abbrev pub decreases-facts : goal.decreases-facts
decreases-facts l = 262144 - length l.facts
