use Rattle.ring_clock.proofs.Places.{IsFull, Made, full_raised}
use Rattle.ring_clock.proofs.full.Full.raise_to.Goals as goal

law : (c : goal.After-raise_to_entries) → Made c.args.self.now c.args.entries.now c.self.inside.group c.raise_to_entries.new.counters
law c =
    let mine : IsFull c.args.self.now c.self.inside.group c.self.inside.counters = record { view = c.self.view_is; own = c.self.invariant.1; long = c.self.told; low = c.self.invariant.2 } in
    full_raised mine c.requires.first c.args.entries.now c.requires.second c.requires.low c.requires.group c.raise_to_entries.new.counters c.raise_to_entries.array_long c.raise_to_entries.ensures

pub invariant_of-self : goal.invariant_of-self
invariant_of-self c = (c.self.invariant.0, (law c).own, (law c).low)

pub returns : goal.returns
returns c = record {
  block = (law c).block;
  group = (law c).same;
  counters = (law c).counters;
}
