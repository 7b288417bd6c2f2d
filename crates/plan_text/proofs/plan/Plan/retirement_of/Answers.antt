use Rattle.std.proofs.Common.{◌≡◌, rules}
use Rattle.plan_text.specs.Steps.{is_retire_of, retirement_of}
use Rattle.plan_text.proofs.Indexed.{first-within}
use Rattle.plan_text.proofs.plan.Plan.retirement_of.Goals as goal

pub returns-clause-within : goal.returns-clause-within
returns-clause-within c =
    let e : c.retirement_of.result ≡ retirement_of c.args.self.now c.args.node.0 = search rules in
    first-within (is_retire_of c.args.node.0) c.args.self.now c.retirement_of.result e
