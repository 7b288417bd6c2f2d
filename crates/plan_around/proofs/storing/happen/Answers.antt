use Rattle.std.proofs.Common.{arith}
use Rattle.ring_core.proofs.SoundAfterEvent.{has_number}
use Rattle.plan_around.proofs.storing.happen.Goals as goal

pub apply-requires : goal.apply-requires
apply-requires c = has_number c.args.store.now.parts c.args.event.now (omega arith) (omega arith)
