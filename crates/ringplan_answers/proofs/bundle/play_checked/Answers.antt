use Rattle.ringplan_answers.proofs.Verdicts.{gives-play}
use Rattle.ringplan_answers.proofs.bundle.play_checked.Goals as goal

pub returns-in-Ok : goal.returns-in-Ok
returns-in-Ok c = gives-play c.args.bundle c.in-Ok.approved.ring c.in-Ok.approved.plan c.play_whole.result c.in-Ok.ensures.accepted c.in-Ok.ensures.same c.play_whole.ensures.text c.play_whole.ensures.memory
