use Rattle.std.proofs.Common.{eqb, arith}
use Rattle.std.proofs.lemmas.Bool.{false_from_ne_true}
use Rattle.texts.proofs.Cuts.{cut_at, none_at}
use Rattle.texts.proofs.cut.cut.Goals as goal

pub returns-in-None : goal.returns-in-None
returns-in-None c = none_at (λ b. eqb b c.args.separator) c.args.bytes.now (λ k h. false_from_ne_true _ (c.in-None.ensures k (omega arith) h))

pub returns-in-Some : goal.returns-in-Some
returns-in-Some c =
    let f = c.in-Some.ensures in
    cut_at (λ b. eqb b c.args.separator) c.args.bytes.now c.in-Some.at f.0.high (λ k h. false_from_ne_true _ (f.0.before k (omega arith) h)) f.1
