use Rattle.std.proofs.Common.{sym, subst}
use Rattle.std.proofs.lemmas.Result.{on_ok_weaker}
use Rattle.plan_check.specs.Headline.{KeepsPromises}
use Rattle.texts.specs.Judging.{Gives}
use Rattle.ringplan_answers.proofs.Verdicts.{verdict-bad, verdict-good}
use Rattle.ringplan_answers.proofs.bundle.check_given.Goals as goal

pub returns-in-Ok-clause-read : goal.returns-in-Ok-clause-read
returns-in-Ok-clause-read c = subst (λ v. Gives c.check_plan.result v) (sym (verdict-good c.args.bytes.items c.in-Ok.bundle c.in-Ok.ensures.read)) c.check_plan.ensures.answer

pub returns-in-Err-clause-read : goal.returns-in-Err-clause-read
returns-in-Err-clause-read c = λ other. verdict-bad c.args.bytes.items c.in-Err.e (c.in-Err.ensures.read other)

pub returns-in-Ok-clause-keeps : goal.returns-in-Ok-clause-keeps
returns-in-Ok-clause-keeps c =
    on_ok_weaker c.check_plan.result (λ (k : KeepsPromises c.in-Ok.bundle.ring c.in-Ok.bundle.plan). (c.in-Ok.bundle, c.in-Ok.ensures.read, k)) c.check_plan.ensures.keeps
