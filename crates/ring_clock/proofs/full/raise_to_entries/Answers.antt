use Rattle.std.proofs.Common.{◌≡◌, ◌∙◌, ℕ, ◌%◌, subst, refl, arith}
use Rattle.std.specs.List.{All, AllByRecursion}
use Rattle.std.proofs.lemmas.List.{length-set}
use Rattle.std.proofs.lemmas.List.Elements.{All-head, All-rest}
use Rattle.ring_clock.specs.declared.entry.Entry.{Entry}
use Rattle.ring_clock.specs.Clock.{IsClock}
use Rattle.ring_clock.specs.Groups.{group, group_in}
use Rattle.ring_clock.specs.Places.{IsLow}
use Rattle.ring_clock.proofs.Groups.{in_group}
use Rattle.ring_clock.proofs.Places.{one_more}
use Rattle.ring_clock.proofs.full.raise_to_entries.Goals as goal

pub entries-init : goal.entries-init
entries-init c = record {
  long = c.told-counters;
  clock = c.requires.block.0;
  low = c.requires.low;
  all = in_group (group_in c.args.entries.now) c.args.entries.now c.requires.block.0 c.requires.block.2;
  counters = λ k few. refl;
}

pub overflow_cast-entry : goal.overflow_cast-entry
overflow_cast-entry c =
    let low = subst (All IsLow) (c.in-Some.ensures).cases.0 c.entries.invariant.low in
    omega (arith, All-head IsLow c.in-Some.entry.now c.in-Some.later.now low)

pub entries-preserved : goal.entries-preserved
entries-preserved c =
    let is = (c.in-Some.ensures).cases.0 in
    let g : ℕ = group_in c.args.entries.now in
    let clock = subst IsClock is c.entries.invariant.clock in
    let all = subst (AllByRecursion (λ (e : Entry). group e.writer.0 ≡ group_in c.args.entries.now)) is c.entries.invariant.all in
    record {
      long = length-set c.entries.counters (c.in-Some.entry.now.writer.0 % 64) c.max.result ∙ c.entries.invariant.long;
      clock = clock.2;
      low = All-rest IsLow c.in-Some.entry.now c.in-Some.later.now c.entries.rest.now is c.entries.invariant.low;
      all = all.1;
      counters = λ k few.
          let step = one_more g c.in-Some.entry.now c.in-Some.later.now c.entries.counters k few c.entries.invariant.long clock all.0 in
          let mine = c.entries.invariant.counters k few in
          rw c.max.ensures (step ∙ (rw is at mine));
    }
