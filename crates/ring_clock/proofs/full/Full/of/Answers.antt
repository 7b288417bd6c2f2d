use Rattle.std.proofs.Common.{arith}
use Rattle.ring_clock.proofs.Places.{Made, full_of, from_zero}
use Rattle.ring_clock.proofs.full.Full.of.Goals as goal

law : (c : goal.After-group_among) → Made c.args.entries.now c.args.entries.now c.group_among.result c.raise_to_entries.new.counters
law c = full_of c.args.entries.now c.group_among.result c.raise_to_entries.new.counters c.requires.block c.requires.low c.group_among.ensures.value c.raise_to_entries.array_long (λ k few. from_zero k _ _ few (c.raise_to_entries.ensures k few))

pub invariant_of-result : goal.invariant_of-result
invariant_of-result c = (c.group_among.ensures.few, (law c).own, (law c).low)

pub returns-clause-block : goal.returns-clause-block
returns-clause-block c = (law c).block

pub returns-clause-group : goal.returns-clause-group
returns-clause-group c = (law c).same

pub returns-clause-counters : goal.returns-clause-counters
returns-clause-counters c = λ w. (let at = (law c).counters w in omega arith)
