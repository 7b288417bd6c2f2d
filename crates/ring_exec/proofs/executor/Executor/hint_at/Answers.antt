use Rattle.std.proofs.Common.{◌≡◌, ◌∙◌, ap}
use Rattle.ring_table.specs.Value.{RingValue}
use Rattle.ring_core.specs.World.{ring_of}
use Rattle.ring_exec.proofs.Looks.{hint_within}
use Rattle.ring_exec.proofs.executor.Executor.hint_at.Goals as goal

pub returns : goal.returns
returns g c =
    let inside = c.lock.result.value in
    let there : c.world.result.now ≡ inside.world = c.world.ensures ∙ ap (λ a. a.world) c.deref.ensures in
    let ring : ring_of c.world.result.now ≡ g.L.RunLedger.ring = ap {B = RingValue} ring_of there ∙ inside.ring in
    hint_within c.world.result.now g.L.RunLedger.ring c.hint_at.result ring c.hint_at.ensures.some
