use Rattle.std.proofs.Common.{refl, arith}
use Rattle.ring_clock.proofs.Places.{IsFull, full_below}
use Rattle.ring_clock.proofs.full.Full.is_below.Goals as goal

pub returns-then-counter_of-counter : goal.returns-then-counter_of-counter
returns-then-counter_of-counter c =
    let mine : IsFull c.args.self.now c.self.inside.group c.self.inside.counters = record { view = c.self.view_is; own = c.self.invariant.1; long = c.self.told; low = c.self.invariant.2 } in
    let law = full_below mine c.args.entries.now in
    (λ h. absurd cc, λ h. absurd (let le = law.1 h c.loop-place.place c.loop-place-test.true in omega arith))

pub returns : goal.returns
returns c =
    let mine : IsFull c.args.self.now c.self.inside.group c.self.inside.counters = record { view = c.self.view_is; own = c.self.invariant.1; long = c.self.told; low = c.self.invariant.2 } in
    let law = full_below mine c.args.entries.now in
    (λ h. law.0 (λ k few. c.loop-place.invariant k (omega arith)), λ h. refl)
