use Rattle.std.proofs.Common.{◌≡◌, rules}
use Rattle.plan_text.specs.Steps.{is_join_of, join_of}
use Rattle.plan_text.proofs.Indexed.{first-within}
use Rattle.plan_text.proofs.plan.Plan.join_of.Goals as goal

pub returns-clause-within : goal.returns-clause-within
returns-clause-within c =
    let e : c.join_of.result ≡ join_of c.args.self.now c.args.node.0 = search rules in
    first-within (is_join_of c.args.node.0) c.args.self.now c.join_of.result e
