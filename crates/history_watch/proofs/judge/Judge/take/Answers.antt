use Rattle.std.proofs.Common.{◌∙◌, sym}
use Rattle.history_watch.proofs.Judged.{refuses_here, takes_here}
use Rattle.history_watch.proofs.judge.Judge.take.Goals as goal

pub returns-in-Going-clause-ok : goal.returns-in-Going-clause-ok
returns-in-Going-clause-ok c =
    takes_here c.args.self.now.approved c.args.self.now.count c.in-Going.paused c.args.self.now.state (sym c.replace.ensures.value ∙ c.in-Going.is) c.args.bytes.now c.take_more-next.result.state c.take_more-next.result.count c.answer-answer.result
    c.answer-answer.ensures c.take_more-next.ensures.ok

pub returns-in-Going-clause-err : goal.returns-in-Going-clause-err
returns-in-Going-clause-err c =
    refuses_here c.args.self.now.approved c.args.self.now.count c.in-Going.paused c.args.self.now.state (sym c.replace.ensures.value ∙ c.in-Going.is) c.args.bytes.now c.take_more-next.result.state c.take_more-next.result.count c.answer-answer.result
    c.answer-answer.ensures c.take_more-next.ensures.err
