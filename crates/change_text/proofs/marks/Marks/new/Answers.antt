use Rattle.change_text.proofs.Named.{none-marked}
use Rattle.change_text.proofs.marks.Marks.new.Goals as goal

pub returns : goal.returns
returns c = λ x. none-marked 1024 x
