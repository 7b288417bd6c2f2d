use Rattle.std.proofs.Common.{rules}
use Rattle.ring_clock.proofs.clock.Clock.bump.Goals as goal

pub returns-clause-counters : goal.returns-clause-counters
returns-clause-counters c = search rules
