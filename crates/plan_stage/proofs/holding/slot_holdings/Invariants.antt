use Rattle.std.proofs.Common.{drop}
use Rattle.plan_stage.specs.Looking.Switches.{IsBehind}
use Rattle.plan_stage.proofs.holding.slot_holdings.Given as goal

abbrev pub invariant-loop-k : goal.invariant-loop-k
invariant-loop-k l = IsBehind l.plan l.fn.slot l.behind (drop l.k l.numbers)
