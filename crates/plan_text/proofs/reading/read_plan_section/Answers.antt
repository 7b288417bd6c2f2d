use Rattle.texts.proofs.Wholes.{reads-found}
use Rattle.plan_text.specs.Reading.{plan_at}
use Rattle.plan_text.specs.Valid.{IsPlan, Suits}
use Rattle.plan_text.proofs.PlanLaws.{section-found}
use Rattle.plan_text.proofs.reading.read_plan_section.Goals as goal

pub returns-clause-found : goal.returns-clause-found
returns-clause-found c = reads-found c.read_parts.result c.read_parts.new.lines (plan_at c.args.ring.now c.args.lines.now) (λ v. IsPlan v × Suits c.args.ring.now v) c.read_parts.ensures.read (section-found c.args.ring.now c.args.lines.now c.n-slots.ensures.valid)
