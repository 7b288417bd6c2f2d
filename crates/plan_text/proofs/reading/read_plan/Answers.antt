use Rattle.std.proofs.Common.{◌≡◌, subst}
use Rattle.texts.specs.Judging.{Gives}
use Rattle.texts.proofs.Wholes.{gives-found}
use Rattle.plan_text.specs.Reading.{plan_reading}
use Rattle.plan_text.specs.Spelling.{plan_text}
use Rattle.plan_text.specs.Valid.{IsPlan, Suits}
use Rattle.plan_text.proofs.PlanLaws.{read-found, read-only}
use Rattle.plan_text.proofs.reading.read_plan.Goals as goal

pub returns-clause-found : goal.returns-clause-found
returns-clause-found c = gives-found c.read_whole.result (plan_reading c.args.ring.now c.args.text.now) (λ v. IsPlan v × Suits c.args.ring.now v × (c.args.text.now ≡ plan_text c.args.ring.now v)) c.read_whole.ensures.exact
    (λ v e. read-found c.args.ring.now c.args.text.now v c.n-slots.ensures.valid e)

pub returns-clause-only : goal.returns-clause-only
returns-clause-only c = λ v is suits e. subst (Gives c.read_whole.result) (read-only c.args.ring.now c.args.text.now v c.n-slots.ensures.valid is suits e) c.read_whole.ensures.exact
