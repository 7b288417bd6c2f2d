use Rattle.std.proofs.Common.{refl}
use Rattle.texts.proofs.Cuts.{first-ended}
use Rattle.texts.proofs.lines.Lines.next.Goals as goal

pub returns-in-Some-clause-found : goal.returns-in-Some-clause-found
returns-in-Some-clause-found c =
    let parts = rw c.in-Some.is at c.cut.ensures in
    rw (c.of-fields.ensures, c.behind-self-inside.ensures.value, ← c.self.view_is) (refl, first-ended c.self.inside.line c.self.inside.rest.now c.cut.result.0.now c.in-Some.rest.now parts)
