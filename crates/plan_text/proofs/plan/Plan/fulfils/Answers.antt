use Rattle.std.proofs.Common.{sym, ◌∙◌}
use Rattle.plan_text.proofs.ChangeLaws.{lacks_a_join, lacks_a_leave, lacks_none}
use Rattle.plan_text.proofs.plan.Plan.fulfils.Goals as goal

pub returns-then-not-joins_all : goal.returns-then-not-joins_all
returns-then-not-joins_all c =
    lacks_a_join c.args.self.now c.args.joins.now c.args.leaves.now (sym c.joins_all.ensures ∙ c.if-not-joins_all.true)

pub returns-then-not-retires_all : goal.returns-then-not-retires_all
returns-then-not-retires_all c =
    lacks_a_leave c.args.self.now c.args.joins.now c.args.leaves.now (sym c.retires_all.ensures ∙ c.if-not-retires_all.true)

pub returns : goal.returns
returns c =
    c.names_only.ensures
    ∙ lacks_none c.args.self.now c.args.joins.now c.args.leaves.now
    (sym c.joins_all.ensures ∙ c.if-not-joins_all.false)
    (sym c.retires_all.ensures ∙ c.if-not-retires_all.false)
