use Rattle.std.proofs.Common.{◌∙◌, sym}
use Rattle.history_watch.proofs.Judged.{answers_here, cut_here}
use Rattle.history_watch.proofs.judge.Judge.end.Goals as goal

pub returns-in-Going-clause-ok : goal.returns-in-Going-clause-ok
returns-in-Going-clause-ok c = answers_here c.args.self.now.approved c.args.self.now.count c.in-Going.paused c.args.self.now.state (sym c.replace.ensures.value ∙ c.in-Going.is) c.finish-ended.result.found c.finish-ended.ensures.ok

pub returns-in-Going-clause-err : goal.returns-in-Going-clause-err
returns-in-Going-clause-err c = cut_here c.args.self.now.approved c.args.self.now.count c.in-Going.paused c.args.self.now.state (sym c.replace.ensures.value ∙ c.in-Going.is) c.finish-ended.result.found c.finish-ended.ensures.err
