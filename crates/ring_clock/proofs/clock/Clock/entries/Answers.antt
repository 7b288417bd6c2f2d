use Rattle.std.proofs.Common.{subst}
use Rattle.ring_clock.specs.Clock.{IsClock}
use Rattle.ring_clock.proofs.Ascending.{all_clock}
use Rattle.ring_clock.proofs.clock.Clock.entries.Goals as goal

-- src/clock.rt:73:5
pub returns-clause-valid : goal.returns-clause-valid
returns-clause-valid c = subst IsClock c.blocks-2.ensures.value (all_clock c.blocks-2.result.now c.blocks-2.ensures.valid)
