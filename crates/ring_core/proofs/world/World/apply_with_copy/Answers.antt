use Rattle.store_parts.specs.Parts.{Answers, Stays}
use Rattle.ring_core.proofs.SoundAfterEvent.{sound_still, puts_few, gets_few, counts_grow}
use Rattle.ring_core.proofs.ReplyCopies.{alone, ok_alone, err_alone, ok_beside}
use Rattle.ring_core.specs.Promises.{IsFresh}
use Rattle.ring_core.proofs.RunPromises.{all_fresh}
use Rattle.ring_core.proofs.world.World.apply_with_copy.Goals as goal

pub invariant_of-self : goal.invariant_of-self
invariant_of-self c =
    let old = c.args.self.now in
    let e = c.args.event.now in
    let new = c.happen_with_copy.new.parts in
    let after = c.happen_with_copy.ensures in
    let told = c.happen_with_copy.result in
    let ok = ok_alone (λ r. Answers old.parts e r new) told after.ok in
    let same = err_alone (Stays old.parts new) told after.same in
    record {
      sound = sound_still old.parts new e (alone told) old.sound after.follows ok same;
      puts = puts_few old.parts new e (alone told) old.sound ok same c.requires.number old.puts;
      gets = gets_few old.parts new e (alone told) old.sound ok same c.requires.number old.gets;
    }

pub returns-clause-counts : goal.returns-clause-counts
returns-clause-counts c =
    let old = c.args.self.now in
    let e = c.args.event.now in
    let new = c.happen_with_copy.new.parts in
    let after = c.happen_with_copy.ensures in
    let told = c.happen_with_copy.result in
    counts_grow old.parts new e (alone told) old.sound (ok_alone (λ r. Answers old.parts e r new) told after.ok) (err_alone (Stays old.parts new) told after.same)

pub returns-clause-fresh : goal.returns-clause-fresh
returns-clause-fresh c =
    let told = c.happen_with_copy.result in
    ok_beside (IsFresh c.args.self.now c.args.event.now) told (all_fresh c.args.self.now c.args.event.now (alone told))
