use Rattle.history_text.specs.Replays.{parts_of}
use Rattle.ringplan_answers.specs.Answers.{texts_of}
use Rattle.ringplan_answers.proofs.Judged.{judged_there}
use Rattle.ringplan_answers.proofs.replaying.replay_checked.Goals as goal

pub returns-in-Ok : goal.returns-in-Ok
returns-in-Ok c =
    let there = c.in-Ok.approved in
    judged_there (parts_of c.args.bundle) there.ring there.plan (texts_of c.replay_approved.result) c.in-Ok.ensures.accepted c.in-Ok.ensures.same c.replay_approved.ensures
