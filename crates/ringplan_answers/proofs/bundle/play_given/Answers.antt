use Rattle.std.proofs.Common.{sym, subst}
use Rattle.texts.specs.Judging.{Gives}
use Rattle.ringplan_answers.specs.Answers.{texts_of}
use Rattle.ringplan_answers.proofs.Verdicts.{plays-bad, plays-good}
use Rattle.ringplan_answers.proofs.bundle.play_given.Goals as goal

pub returns-in-Ok : goal.returns-in-Ok
returns-in-Ok c = subst (λ v. Gives (texts_of c.play_checked.result) v) (sym (plays-good c.args.bytes.items c.in-Ok.bundle c.in-Ok.ensures.read)) c.play_checked.ensures

pub returns-in-Err : goal.returns-in-Err
returns-in-Err c = λ other. plays-bad c.args.bytes.items c.in-Err.e (c.in-Err.ensures.read other)
