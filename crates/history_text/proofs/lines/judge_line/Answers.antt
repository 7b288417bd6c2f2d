use Rattle.history_text.proofs.EntryLaws.{judged}
use Rattle.history_text.proofs.lines.judge_line.Goals as goal

pub returns : goal.returns
returns c = judged c.args.ring.now c.args.history.now c.args.names.now c.line-line.result c.args.fields c.split-parts.result.0 c.split-parts.result.1 c.event_part-event.result c.reply_part-reply.result c.both.result
    c.line-line.ensures c.split-parts.ensures.front c.split-parts.ensures.behind c.event_part-event.ensures c.reply_part-reply.ensures c.both.ensures
