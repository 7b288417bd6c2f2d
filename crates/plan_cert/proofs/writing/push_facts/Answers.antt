use Rattle.plan_cert.specs.Spelling.{fact_fields}
use Rattle.texts.proofs.Places.{lines-more}
use Rattle.plan_cert.proofs.writing.push_facts.Goals as goal

pub loop-place-preserved : goal.loop-place-preserved
loop-place-preserved c = lines-more c.args.facts.now c.loop-place.place c.row.result.now c.row.ensures fact_fields c.args.out.now.items c.loop-place.out.items c.push_fact.new.out.items c.loop-place.invariant c.in_ok-push_fact.ensures
