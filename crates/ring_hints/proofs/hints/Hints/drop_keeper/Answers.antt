use Rattle.std.proofs.Common.{◌∙◌}
use Rattle.ring_hints.specs.Hints.{hinted_at, kept_count}
use Rattle.ring_hints.specs.Views.{pair_of}
use Rattle.ring_hints.proofs.PairChanged.{others_stay, fewer, was_some}
use Rattle.ring_hints.proofs.hints.Hints.drop_keeper.Goals as goal

pub slots-preserved : goal.slots-preserved
slots-preserved c x s k ne =
    others_stay (pair_of c.args.keeper.0 c.in-Some.slot) x s (hinted_at c.slots.self x s k) (hinted_at c.take.new.self x s k) ne (c.take.ensures.after x s k) ∙ c.slots.invariant x s k ne

pub slots-smaller : goal.slots-smaller
slots-smaller c =
    fewer c.take.result (kept_count c.take.new.self) (kept_count c.slots.self)
    (was_some c.take.result _ c.take.ensures.none (λ none. (c.in-Some.ensures).some none))
    c.take.ensures.count

pub slots-preserved-in-Some : goal.slots-preserved-in-Some
slots-preserved-in-Some c x s k ne =
    others_stay (pair_of c.args.keeper.0 c.in-Some.slot) x s (hinted_at c.slots.self x s k) (hinted_at c.take.new.self x s k) ne (c.take.ensures.after x s k) ∙ c.slots.invariant x s k ne

pub slots-smaller-in-Some : goal.slots-smaller-in-Some
slots-smaller-in-Some c =
    fewer c.take.result (kept_count c.take.new.self) (kept_count c.slots.self)
    (was_some c.take.result _ c.take.ensures.none (λ none. (c.in-Some.ensures).some none))
    c.take.ensures.count

pub returns-clause-gone : goal.returns-clause-gone
returns-clause-gone c = (c.in_default.ensures).none
