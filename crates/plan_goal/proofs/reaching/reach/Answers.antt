use Rattle.std.proofs.lemmas.Result.{IfErr-weaker}
use Rattle.plan_goal.proofs.Turned.{unreached}
use Rattle.plan_goal.proofs.reaching.reach.Goals as goal

pub returns-in-Ok-clause-refused : goal.returns-in-Ok-clause-refused
returns-in-Ok-clause-refused c =
    IfErr-weaker c.checked.result _ _ (λ e h. unreached c.args.ring c.args.wanted.now c.args.dead.now c.in-Ok.plan c.in-Ok.cert e c.in-Ok.ensures.leads h) c.checked.ensures.refused
