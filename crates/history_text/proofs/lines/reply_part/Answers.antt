use Rattle.history_text.proofs.EntryLaws.{finished}
use Rattle.history_text.proofs.lines.reply_part.Goals as goal

pub returns-in-Some : goal.returns-in-Some
returns-in-Some c = rw c.in-Some.is (finished c.args.line c.in-Some.fields c.said_reply-reply.new.fields c.said_reply-reply.result c.finish.result c.said_reply-reply.ensures c.finish.ensures)
