use Rattle.std.proofs.Common.{◌∙◌, ℕ, ◌<◌, sym, subst}
use Rattle.std.proofs.lemmas.Bool.{eqb-true}
use Rattle.ring_versions.proofs.Owning.{told_more}
use Rattle.ring_versions.proofs.group.Group.with.Goals as goal

pub returns-then-own-gt0 : goal.returns-then-own-gt0
returns-then-own-gt0 c = λ vs v is each yes.
    let writer = c.args.own.writer.0 in
    let its = sym c.group_of.ensures ∙ eqb-true c.group_of.result c.args.self.number yes in
    told_more c.args.self.number vs v (each c.if-own-gt0.true.0) (writer, its, subst (λ (n : ℕ). 0 < n) is c.if-own-gt0.true.1)
