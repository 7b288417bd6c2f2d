use Rattle.ring_clock.proofs.Searching.{seen}
use Rattle.ring_clock.proofs.entry.guessed.Goals as goal

pub returns-then-entry-writer : goal.returns-then-entry-writer
returns-then-entry-writer c =
    let at = ((c.in_ok-entry.ensures).lookup).3 in
    seen c.args.entries.now c.args.writer.0 c.in_ok-place.place c.in_ok-entry.entry.now c.requires at.0 (at.1 _) c.if-entry-writer.true
