use Rattle.std.proofs.Common.{◌≡◌, ◌-◌, ◌≤◌, length}
use Rattle.texts.specs.Left.{many_from}
use Rattle.plan_cert.specs.Reading.{chain_at, begins_chain}
use Rattle.plan_cert.proofs.reading.read_chains.Given as goal

abbrev pub invariant-chains : goal.invariant-chains
invariant-chains l = record {
  rest : many_from (begins_chain l.ring) (chain_at l.ring) l.chains l.lines.line l.lines.lines ≡ many_from (begins_chain l.fn.ring) (chain_at l.fn.ring) l.fn.chains l.fn.lines.line l.fn.lines.lines;
  forward : l.fn.lines.line ≤ l.lines.line;
  few : length l.chains ≤ 65536;
}

abbrev pub decreases-chains : goal.decreases-chains
decreases-chains l = 65536 - length l.chains
