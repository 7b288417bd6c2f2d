use Rattle.std.proofs.Common.{refl}
use Rattle.history_text.proofs.Takings.{refuses_over}
use Rattle.history_text.proofs.reader.Reader.take_line.Goals as goal

pub returns-in-Over-clause-err : goal.returns-in-Over-clause-err
returns-in-Over-clause-err c = λ ne. refuses_over c.args.self.now c.args.text.now _ c.in-Over.is refl
