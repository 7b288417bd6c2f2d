use Rattle.std.proofs.Common.{rules}
use Rattle.plan_cert.specs.Reading.{chain_at}
use Rattle.plan_cert.proofs.lines.judge_chain.Goals as goal

pub returns-in_err-of : goal.returns-in_err-of
unfolding chain_at
returns-in_err-of c = search rules

pub returns : goal.returns
unfolding chain_at
returns c = search rules
