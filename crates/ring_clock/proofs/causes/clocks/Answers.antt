use Rattle.std.proofs.Common.{get_or, []}
use Rattle.ring_clock.proofs.Order.{succession}
use Rattle.ring_clock.proofs.causes.clocks.Goals as goal

-- src/causes.rt:143:1
pub returns-clause-succession : goal.returns-clause-succession
returns-clause-succession c = succession c.args.causes.now (λ v. get_or c.push_clocks.new.out.items v []) (c.in_ok-push_clocks.ensures).clocks
