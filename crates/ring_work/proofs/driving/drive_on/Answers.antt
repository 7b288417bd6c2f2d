use Rattle.std.proofs.lemmas.Result.{IfErr-weaker}
use Rattle.ring_work.proofs.driving.drive_on.Goals as goal

pub returns-in-Ok-clause-spent : goal.returns-in-Ok-clause-spent
returns-in-Ok-clause-spent g c = IfErr-weaker c.finish_drive.result _ _ (λ f h spent. c.in-Ok.ensures.spent (h spent)) c.finish_drive.ensures.spent
