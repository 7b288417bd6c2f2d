use Rattle.ring_core.proofs.ReplyCopies.{lists_none, not_asked}
use Rattle.ring_core.proofs.events.happen_with_copy.Goals as goal

pub copy_of-copy-requires : goal.copy_of-copy-requires
copy_of-copy-requires c =
    let e = c.args.event.now in
    lists_none c.args.parts.now c.happen.new.parts e c.in_ok-reply-in_default.reply c.requires.sound c.in_ok-reply-in_default.ensures.ok (not_asked e c.in_default.not-Read c.in_default.not-EndGet)
