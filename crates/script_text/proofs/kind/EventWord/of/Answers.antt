use Rattle.std.proofs.Common.{rules, codes, refl}
use Rattle.std.proofs.lemmas.Slice.Eq.{text_from_reads}
use Rattle.script_text.proofs.kind.EventWord.of.Goals as goal

pub returns-in-endget : goal.returns-in-endget
returns-in-endget c = let is = text_from_reads c.args.word.now (codes "endget") (search rules) (search rules) in rw is refl

pub returns-in-handoff : goal.returns-in-handoff
returns-in-handoff c = let is = text_from_reads c.args.word.now (codes "handoff") (search rules) (search rules) in rw is refl
