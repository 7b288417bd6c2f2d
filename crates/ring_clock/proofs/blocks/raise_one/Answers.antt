use Rattle.std.proofs.Common.{◌≡◌, ◌∙◌, [], ℕ, ◌<◌, List, length, get_or, sym, ap, subst}
use Rattle.std.specs.Prelude.{Some, max}
use Rattle.std.proofs.lemmas.List.{get_or_default}
use Rattle.ring_clock.specs.declared.entry.Entry.{Entry}
use Rattle.ring_clock.specs.Clock.{counter}
use Rattle.ring_clock.specs.Groups.{group_in, IsAtMostBut, IsBlock}
use Rattle.ring_clock.specs.Blocks.{AreBlocks, entries_of}
use Rattle.ring_clock.proofs.Finding.{block_at}
use Rattle.ring_clock.proofs.Placing.{still_blocks, raised_at}
use Rattle.ring_clock.proofs.blocks.raise_one.Goals as goal

-- the block at the place that was found by its group
module _ (bs looked : List (List Entry)) (p g : ℕ) (b : List Entry) (all : looked ≡ bs) (within : p < length looked) (of : group_in (get_or looked p []) ≡ g) (is : b ≡ get_or bs p b) where
  inside : p < length bs
  inside = subst (λ (xs : List (List Entry)). p < length xs) all within

  of_group : group_in b ≡ g
  of_group = ap group_in (is ∙ get_or_default bs p b [] inside) ∙ subst (λ (xs : List (List Entry)). group_in (get_or xs p []) ≡ g) all of

  one : AreBlocks bs → IsBlock b
  one are = subst IsBlock (sym is) (block_at bs are p b inside)

pub raise-requires-clause-first : goal.raise-requires-clause-first
raise-requires-clause-first c =
    one c.args.blocks.now.items c.as_slice.result.now c.in-Some-place_of.place c.args.group c.index_mut.result.now c.as_slice.ensures.value c.in-Some-place_of.ensures.within c.in-Some-place_of.ensures.of c.index_mut.ensures.value c.requires.first

pub returns-clause-valid : goal.returns-clause-valid
returns-clause-valid c =
    let is = c.index_mut.ensures.value in
    still_blocks c.args.blocks.now.items c.in-Some-place_of.place c.raise.new.self c.index_mut.result.now
    (inside c.args.blocks.now.items c.as_slice.result.now c.in-Some-place_of.place c.args.group c.index_mut.result.now c.as_slice.ensures.value c.in-Some-place_of.ensures.within c.in-Some-place_of.ensures.of is)
    c.in_ok-raise.ensures.ok.block (c.in_ok-raise.ensures.ok.group ∙ ap group_in is) c.requires.first

pub returns-clause-raised : goal.returns-clause-raised
returns-clause-raised c = λ yes.
    let is = c.index_mut.ensures.value in
    let made = c.in_ok-raise.ensures.ok in
    let of = of_group c.args.blocks.now.items c.as_slice.result.now c.in-Some-place_of.place c.args.group c.index_mut.result.now c.as_slice.ensures.value c.in-Some-place_of.ensures.within c.in-Some-place_of.ensures.of is in
    raised_at c.args.blocks.now.items c.args.others.now c.in-Some-place_of.place c.args.group c.in-Some.other.now c.raise.new.self c.index_mut.result.now c.requires.first
    (inside c.args.blocks.now.items c.as_slice.result.now c.in-Some-place_of.place c.args.group c.index_mut.result.now c.as_slice.ensures.value c.in-Some-place_of.ensures.within c.in-Some-place_of.ensures.of is)
    (sym (ap group_in is) ∙ of) c.in-Some.ensures.some made.block (made.group ∙ ap group_in is)
    (λ w. made.counters w ∙ ap (λ (x : List Entry). max (counter x w) (counter c.in-Some.other.now w)) is)
    (subst (λ (xs : List (List Entry)). IsAtMostBut (Some c.args.group) (entries_of c.args.others.now) (entries_of xs)) c.as_slice-2.ensures.value (c.are_reached.ensures.0 c.if-not-are_reached.false))
