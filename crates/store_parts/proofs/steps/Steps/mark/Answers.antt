use Rattle.store_parts.proofs.Marked.{marks_of_written}
use Rattle.store_parts.proofs.steps.Steps.mark.Goals as goal

pub returns-then-place-len-clause-marks : goal.returns-then-place-len-clause-marks
returns-then-place-len-clause-marks c = rw (← c.self.view_is) (λ l. marks_of_written _ _ _ _ _ l c.index_mut-now.ensures.value c.with-now.ensures.numbers)
