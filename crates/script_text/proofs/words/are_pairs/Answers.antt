use Rattle.std.proofs.Common.{◌%◌, length, refl}
use Rattle.std.proofs.lemmas.Bool.{ne_eqb}
use Rattle.script_text.proofs.DigitLaws.{pairs_are}
use Rattle.script_text.proofs.words.are_pairs.Goals as goal

pub returns-else-digits-eq0 : goal.returns-else-digits-eq0
returns-else-digits-eq0 c = rw (pairs_are c.args.digits.now, ne_eqb (length c.args.digits.now % 2) 0 c.if-digits-eq0.false) refl
