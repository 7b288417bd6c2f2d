-- The chain that a line says.
use Rattle.plan_cert.specs.declared.lines.ChainLine.{ChainLine}
use Rattle.plan_cert.specs.declared.cert.Chain.{Chain}
use Rattle.plan_cert.specs.Chains.{chain_of}

-- the chain that is kept of a line
abbrev pub chain_said : ChainLine → Chain
chain_said x = chain_of x.of x.steps
