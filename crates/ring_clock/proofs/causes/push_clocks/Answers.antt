use Rattle.std.proofs.Common.{◌≡◌, ◌<◌, ◌≤◌, ◌+◌, ℕ, List, [], true, length, get_or, Option, sym, subst, ap, arith}
use Rattle.ring_clock.specs.Clock.{counter}
use Rattle.ring_names.specs.Lists.{has}
use Rattle.ring_clock.specs.Built.{IsInput, IsNext, last_of}
use Rattle.ring_clock.specs.declared.entry.Entry.{Entry}
use Rattle.ring_clock.proofs.Making.{made_one, cause_at}
use Rattle.ring_clock.proofs.causes.push_clocks.Goals as goal

-- src/causes.rt:134:21
pub next_clock-requires-clause-seen : goal.next_clock-requires-clause-seen
next_clock-requires-clause-seen c = λ v h.
    let facts = cause_at c.args.causes.now c.loop-place.place c.index-causes-place.result c.index-causes-place.is c.loop-place-test.true in
    let less = c.requires.earlier c.loop-place.place v (subst (λ (xs : List ℕ). has v xs ≡ true) (sym facts.1) h) in
    let each = c.loop-place.invariant.each in
    subst (λ (xs : List (List Entry)). v < length xs) (sym c.as_slice.ensures.value) (omega arith)

-- src/causes.rt:132:5
pub loop-place-preserved : goal.loop-place-preserved
loop-place-preserved c =
    let next = subst (λ (xs : List (List Entry)). IsNext (λ v. get_or xs v []) (IsInput c.index-causes-place.result c.of.result) c.index-causes-place.result.writer.0 c.in_ok-clock.clock) c.as_slice.ensures.value (c.in_ok-clock.ensures).ok in
    let input = subst (λ (o : Option ℕ). IsNext (λ v. get_or c.loop-place.out.items v []) (IsInput c.index-causes-place.result o) c.index-causes-place.result.writer.0 c.in_ok-clock.clock) c.of.ensures next in
    let few : (w : ℕ) → counter c.in_ok-clock.clock w ≤ c.loop-place.place + 1 = λ w. (let f = (c.in_ok-clock.ensures).few w in let each = c.loop-place.invariant.each in let is : length c.as_slice.result.now ≡ length c.loop-place.out.items = ap length c.as_slice.ensures.value in omega arith) in
    made_one c.args.causes.now c.loop-place.out.items c.push.new.self.items c.loop-place.place c.index-causes-place.result (last_of c.loop-place.last) (last_of c.set.new.self) c.in_ok-clock.clock c.requires.earlier c.loop-place-test.true c.index-causes-place.is (c.in_ok-push.ensures).items input few (c.in_ok-set.ensures).ok c.loop-place.invariant

-- src/causes.rt:120:1
pub returns-clause-clocks : goal.returns-clause-clocks
returns-clause-clocks c = λ k h. c.loop-place.invariant.clock k (omega arith)
