use Rattle.texts.proofs.FrameLaws.{end-at}
use Rattle.texts.proofs.frame.end.Goals as goal

pub returns-clause-at : goal.returns-clause-at
returns-clause-at c = rw (c.end_line.ensures, c.in_ok-next.ensures.found.0) (end-at c.args.lines.now.line c.in_ok-next.field-0.fields)
