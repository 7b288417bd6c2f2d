use Rattle.texts.proofs.FrameLaws.{header-at}
use Rattle.texts.proofs.frame.header.Goals as goal

pub returns-clause-at : goal.returns-clause-at
returns-clause-at c = rw (c.header_line.ensures, c.in_ok-next.ensures.found.0) (header-at c.args.word.now c.args.format.now c.args.lines.now.line c.in_ok-next.field-0.fields)
