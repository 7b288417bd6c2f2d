use Rattle.std.proofs.Common.{◌∙◌, vec_len, sym, ap}
use Rattle.std.proofs.lemmas.Result.{IfOk-weaker}
use Rattle.ring_work.proofs.driving.finish_drive.Goals as goal

pub returns-in-Ok-finish-clause-lists : goal.returns-in-Ok-finish-clause-lists
returns-in-Ok-finish-clause-lists g c = IfOk-weaker c.check_outcome.result _ _ (λ o h. (ap vec_len h.1 ∙ sym c.len.ensures ∙ (c.is_whole-whole.ensures h.0).2, h.1)) c.check_outcome.ensures.receipts
