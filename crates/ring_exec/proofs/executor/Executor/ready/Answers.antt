use Rattle.std.proofs.Common.{◌≡◌, ◌∙◌, List, ap}
use Rattle.plan_text.specs.declared.step.Planned.{Planned}
use Rattle.ring_core.specs.World.{plan_of}
use Rattle.ring_exec.proofs.Looks.{next_within}
use Rattle.ring_exec.proofs.executor.Executor.ready.Goals as goal

pub returns : goal.returns
returns g c =
    let inside = c.lock.result.value in
    let there : c.world.result.now ≡ inside.world = c.world.ensures ∙ ap (λ a. a.world) c.deref.ensures in
    let plan : plan_of c.world.result.now ≡ g.L.RunLedger.plan = ap {B = List Planned} plan_of there ∙ inside.plan in
    next_within c.world.result.now g.L.RunLedger.plan c.args.from c.ready.result plan c.ready.ensures.some
