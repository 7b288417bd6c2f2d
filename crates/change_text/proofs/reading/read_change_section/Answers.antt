use Rattle.texts.proofs.Wholes.{reads-found}
use Rattle.change_text.specs.Reading.{change_at}
use Rattle.change_text.specs.Valid.{IsChange}
use Rattle.change_text.proofs.ChangeLaws.{section-found}
use Rattle.change_text.proofs.reading.read_change_section.Goals as goal

pub returns-clause-found : goal.returns-clause-found
returns-clause-found c = reads-found c.read_parts.result c.read_parts.new.lines (change_at c.args.ring.now c.args.lines.now) (IsChange c.args.ring.now) c.read_parts.ensures.read (section-found c.args.ring.now c.args.lines.now c.n-slots.ensures.valid)
