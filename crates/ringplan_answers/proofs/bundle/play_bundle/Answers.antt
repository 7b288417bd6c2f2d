use Rattle.std.proofs.Common.{sym, subst}
use Rattle.texts.specs.Judging.{Gives}
use Rattle.ringplan_answers.specs.Answers.{texts_of}
use Rattle.ringplan_answers.proofs.Verdicts.{plays-bad, plays-good}
use Rattle.ringplan_answers.proofs.bundle.play_bundle.Goals as goal

pub returns-in-Ok-clause-read : goal.returns-in-Ok-clause-read
returns-in-Ok-clause-read c = subst (λ v. Gives (texts_of c.play_checked.result) v) (sym (plays-good c.args.bytes.now c.in-Ok.bundle c.in-Ok.ensures.read)) c.play_checked.ensures

pub returns-in-Err-clause-read : goal.returns-in-Err-clause-read
returns-in-Err-clause-read c = λ other. plays-bad c.args.bytes.now c.in-Err.e (c.in-Err.ensures.read other)
