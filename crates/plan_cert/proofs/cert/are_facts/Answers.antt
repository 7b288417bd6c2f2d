use Rattle.std.proofs.Common.{sym, ◌∙◌}
use Rattle.plan_cert.specs.Valid.{is_fact}
use Rattle.texts.proofs.Places.{all-more, all-but}
use Rattle.plan_cert.proofs.cert.are_facts.Goals as goal

pub loop-place-preserved : goal.loop-place-preserved
loop-place-preserved c = all-more c.args.facts.now c.loop-place.place c.row.result.now c.row.ensures is_fact c.loop-place.invariant (sym c.is_fact.ensures ∙ c.if-not-is_fact.false)

pub returns-then-not-is_fact : goal.returns-then-not-is_fact
returns-then-not-is_fact c = sym (all-but c.args.facts.now c.loop-place.place c.row.result.now c.row.ensures is_fact (sym c.is_fact.ensures ∙ c.if-not-is_fact.true))
