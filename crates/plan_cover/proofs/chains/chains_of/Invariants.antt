use Rattle.std.proofs.Common.{◌≡◌, ◌<◌, take}
use Rattle.ring_names.specs.declared.ids.NodeId.{NodeId}
use Rattle.plan_cover.specs.Looking.Numbers.{kept_of, chain_numbers}
use Rattle.plan_cover.proofs.chains.chains_of.Given as goal

abbrev pub invariant-loop-k : goal.invariant-loop-k
invariant-loop-k l = (x : NodeId) → x.0 < l.nodes → kept_of l.index x ≡ chain_numbers (take l.k l.chains) x
