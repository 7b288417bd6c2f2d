use Rattle.std.proofs.Common.{refl, subst}
use Rattle.ring_table.specs.Value.{RingValue}
use Rattle.ring_table.specs.Valid.{IsRing}
use Rattle.history_text.specs.State.{IsFirst}
use Rattle.history_watch.proofs.Watched.{at_start}
use Rattle.history_watch.proofs.watch.Watch.start.Goals as goal

pub returns-clause-ok : goal.returns-clause-ok
returns-clause-ok c = at_start c.args.approved.now.ring c.args.approved.now.plan _ (subst IsRing c.in_ok-start.ensures.ring c.in_ok-start.ensures.opening.is_ring) c.in_ok-start.ensures.ring c.in_ok-start.ensures.plan (subst (λ (r : RingValue). IsFirst r 1 c.of.result) c.ring-2.ensures.value c.of.ensures) c.new.ensures.items refl c.in_ok-start.ensures.opening
