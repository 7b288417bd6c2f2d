use Rattle.std.proofs.Common.{refl}
use Rattle.texts.proofs.Measured.{Measures-push}
use Rattle.texts.proofs.measure.Measure.add.Goals as goal

pub returns : goal.returns
returns c = λ xs n e m.
    let kept = c.keep.ensures in
    Measures-push xs n c.args.self.now _ m
    (rw kept.count at c.saturating_add-self.ensures)
    (rw (kept.bound, e) at c.max-self.ensures)
    (rw (kept.ascends, kept.bound, e) refl)
    (rw e at kept.first)
