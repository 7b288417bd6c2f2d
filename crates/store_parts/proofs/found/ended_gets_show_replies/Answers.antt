use Rattle.store_parts.proofs.GetsFound.{end_shows, end_reply}
use Rattle.store_parts.proofs.found.ended_gets_show_replies.Goals as goal

pub returns-clause-shows : goal.returns-clause-shows
returns-clause-shows c = end_shows

pub returns-clause-reply : goal.returns-clause-reply
returns-clause-reply c = end_reply
