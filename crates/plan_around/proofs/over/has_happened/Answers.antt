use Rattle.std.proofs.Common.{subst}
use Rattle.ring_names.specs.declared.refusal.Refusal.{Refusal}
use Rattle.ring_core.specs.World.{Refuses}
use Rattle.plan_around.proofs.over.has_happened.Goals as goal

pub returns-in-Err : goal.returns-in-Err
returns-in-Err c = λ t. subst (λ (e : Refusal). Refuses c.args.store.now c.args.event.now e) (c.is_already.ensures t) c.in-Err.ensures.err.1
