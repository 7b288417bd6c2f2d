use Rattle.ring_clock.proofs.Places.{IsFull, full_compared, low_at}
use Rattle.ring_clock.proofs.full.Full.is_at_most.Goals as goal

pub are_below-requires-clause-first : goal.are_below-requires-clause-first
are_below-requires-clause-first c = low_at c.self.inside.group c.self.inside.counters c.self.invariant.2

pub are_below-requires-clause-second : goal.are_below-requires-clause-second
are_below-requires-clause-second c = low_at c.other.inside.group c.other.inside.counters c.other.invariant.2

pub returns : goal.returns
returns c =
    let mine : IsFull c.args.self.now c.self.inside.group c.self.inside.counters = record { view = c.self.view_is; own = c.self.invariant.1; long = c.self.told; low = c.self.invariant.2 } in
    let theirs : IsFull c.args.other.now c.other.inside.group c.other.inside.counters = record { view = c.other.view_is; own = c.other.invariant.1; long = c.other.told; low = c.other.invariant.2 } in
    let law = full_compared mine theirs c.requires in
    (λ h. law.0 (c.are_below.ensures.0 h), λ h. c.are_below.ensures.1 (law.1 h))
