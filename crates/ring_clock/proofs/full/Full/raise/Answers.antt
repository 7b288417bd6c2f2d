use Rattle.ring_clock.proofs.Places.{IsFull, Made, full_joined}
use Rattle.ring_clock.proofs.full.Full.raise.Goals as goal

law : (c : goal.After-raise_to) → Made c.args.self.now c.args.other.now c.self.inside.group c.raise_to.new.counters
law c =
    let mine : IsFull c.args.self.now c.self.inside.group c.self.inside.counters = record { view = c.self.view_is; own = c.self.invariant.1; long = c.self.told; low = c.self.invariant.2 } in
    let theirs : IsFull c.args.other.now c.other.inside.group c.other.inside.counters = record { view = c.other.view_is; own = c.other.invariant.1; long = c.other.told; low = c.other.invariant.2 } in
    full_joined mine theirs c.requires.first c.requires.second c.requires.group c.raise_to.new.counters c.raise_to.ensures

pub invariant_of-self : goal.invariant_of-self
invariant_of-self c = (c.self.invariant.0, (law c).own, (law c).low)

pub returns : goal.returns
returns c = record {
  block = (law c).block;
  group = (law c).same;
  counters = (law c).counters;
}
