use Rattle.ring_core.proofs.SoundAfterEvent.{sound_still, puts_few, gets_few, counts_grow}
use Rattle.ring_core.proofs.RunPromises.{all_fresh}
use Rattle.ring_core.proofs.world.World.apply.Goals as goal

-- src/world.rt:62:9
pub invariant_of-self : goal.invariant_of-self
invariant_of-self c =
    let old = c.args.self.now in
    let after = c.happen.ensures in
    record {
      sound = sound_still old.parts c.happen.new.parts c.args.event.now c.happen.result old.sound after.follows after.ok after.same;
      puts = puts_few old.parts c.happen.new.parts c.args.event.now c.happen.result old.sound after.ok after.same c.requires old.puts;
      gets = gets_few old.parts c.happen.new.parts c.args.event.now c.happen.result old.sound after.ok after.same c.requires old.gets;
    }

-- src/world.rt:53:5
pub returns-clause-counts : goal.returns-clause-counts
returns-clause-counts c = counts_grow c.args.self.now.parts c.happen.new.parts c.args.event.now c.happen.result c.args.self.now.sound c.happen.ensures.ok c.happen.ensures.same

pub returns-clause-fresh : goal.returns-clause-fresh
returns-clause-fresh c = all_fresh c.args.self.now c.args.event.now c.happen.result
