use Rattle.store_parts.proofs.GetsFound.{read_shows, read_reply}
use Rattle.store_parts.proofs.found.reads_are_merged.Goals as goal

pub returns-clause-shows : goal.returns-clause-shows
returns-clause-shows c = read_shows

pub returns-clause-reply : goal.returns-clause-reply
returns-clause-reply c = read_reply
