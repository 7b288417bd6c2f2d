use Rattle.std.proofs.Common.{refl}
use Rattle.plan_runs.specs.Guards.{guards}
use Rattle.ring_core.proofs.events.refusal.Goals as goal

-- src/events.rt:23:1
pub returns-in-StartGet : goal.returns-in-StartGet
unfolding guards
returns-in-StartGet c w m = rw c.in-StartGet.is refl
