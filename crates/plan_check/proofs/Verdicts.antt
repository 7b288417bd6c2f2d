-- Worked examples: the first clause of the checker that does not hold, or none.
use Rattle.std.proofs.Common.{◌≡◌, [], ◌∷◌, codes, Some, None, refl, true, false}
use Rattle.ring_names.specs.declared.refusal.Refusal.TheVariants.{WrongStage, UnorderedSlot, BadSource, MovingSource, SharedInPlan, NotJoined, RetiredInUse, BadPath, CoverMissing, ChainBroken, TooManyChains}
use Rattle.ring_table.specs.declared.allowance.Side.TheVariants.{Both}
use Rattle.ring_table.specs.Value.{RingValue}
use Rattle.plan_text.specs.declared.step.Source.TheVariants.{Owner, Slots}
use Rattle.plan_text.specs.declared.step.Step.TheVariants.{Join, Mirror, Copy, Switch, Drop, Retire}
use Rattle.plan_stage.specs.Clauses.{below}
use Rattle.plan_check.specs.First.{first_refusal}
use Rattle.plan_runs.proofs.Examples.{node, the, at, step, ring_of_four}

-- the same, with fewer transfers at b, and with a fifth node that is `out`
abbrev narrow_ring : RingValue
narrow_ring = record (ring_of_four false) { nodes = node (codes "a") 4 true ∷ node (codes "b") 1 true ∷ node (codes "c") 4 true ∷ node (codes "d") 4 false ∷ [] }

abbrev wide_ring : RingValue
wide_ring = record (ring_of_four false) { nodes = node (codes "a") 4 true ∷ node (codes "b") 4 true ∷ node (codes "c") 4 true ∷ node (codes "d") 4 false ∷ node (codes "e") 4 false ∷ [] }

-- a slot moves from b to d
a_move : first_refusal (ring_of_four false) (step (Join (the 3)) ([]) ∷ step (Mirror (at 0 1) (the 3)) (0 ∷ []) ∷ step (Copy (at 0 1) Owner) (1 ∷ []) ∷ step (Switch (at 0 1)) (2 ∷ []) ∷ step (Drop (at 0 1) (the 1)) (3 ∷ []) ∷ []) (record { facts = []; chains = record { node = the 1; side = Both; steps = 2 ∷ [] } ∷ record { node = the 3; side = Both; steps = 2 ∷ [] } ∷ [] }) ≡ None
unfolding below
a_move = refl

-- the copy reads two other slots, whose owners take part
listed_sources : first_refusal (ring_of_four false) (step (Join (the 3)) ([]) ∷ step (Mirror (at 0 1) (the 3)) (0 ∷ []) ∷ step (Copy (at 0 1) (Slots (0 ∷ 2 ∷ []))) (1 ∷ []) ∷ step (Switch (at 0 1)) (2 ∷ []) ∷ step (Drop (at 0 1) (the 1)) (3 ∷ []) ∷ []) (record { facts = []; chains = record { node = the 0; side = Both; steps = 2 ∷ [] } ∷ record { node = the 2; side = Both; steps = 2 ∷ [] } ∷ record { node = the 3; side = Both; steps = 2 ∷ [] } ∷ [] }) ≡ None
unfolding below
listed_sources = refl

-- a listed slot stands twice
a_source_twice : first_refusal (ring_of_four false) (step (Join (the 3)) ([]) ∷ step (Mirror (at 0 1) (the 3)) (0 ∷ []) ∷ step (Copy (at 0 1) (Slots (0 ∷ 0 ∷ []))) (1 ∷ []) ∷ step (Switch (at 0 1)) (2 ∷ []) ∷ step (Drop (at 0 1) (the 1)) (3 ∷ []) ∷ []) (record { facts = []; chains = record { node = the 0; side = Both; steps = 2 ∷ [] } ∷ record { node = the 2; side = Both; steps = 2 ∷ [] } ∷ record { node = the 3; side = Both; steps = 2 ∷ [] } ∷ [] }) ≡ Some (BadSource 2)
unfolding below
a_source_twice = refl

-- fewer than R slots are listed
one_source : first_refusal (ring_of_four false) (step (Join (the 3)) ([]) ∷ step (Mirror (at 0 1) (the 3)) (0 ∷ []) ∷ step (Copy (at 0 1) (Slots (2 ∷ []))) (1 ∷ []) ∷ step (Switch (at 0 1)) (2 ∷ []) ∷ step (Drop (at 0 1) (the 1)) (3 ∷ []) ∷ []) (record { facts = []; chains = record { node = the 0; side = Both; steps = 2 ∷ [] } ∷ record { node = the 2; side = Both; steps = 2 ∷ [] } ∷ record { node = the 3; side = Both; steps = 2 ∷ [] } ∷ [] }) ≡ Some (BadSource 2)
unfolding below
one_source = refl

-- the copy is in no chain of a, whose slot it reads
an_uncovered_source : first_refusal (ring_of_four false) (step (Join (the 3)) ([]) ∷ step (Mirror (at 0 1) (the 3)) (0 ∷ []) ∷ step (Copy (at 0 1) (Slots (0 ∷ 2 ∷ []))) (1 ∷ []) ∷ step (Switch (at 0 1)) (2 ∷ []) ∷ step (Drop (at 0 1) (the 1)) (3 ∷ []) ∷ []) (record { facts = []; chains = record { node = the 1; side = Both; steps = 2 ∷ [] } ∷ record { node = the 3; side = Both; steps = 2 ∷ [] } ∷ [] }) ≡ Some (CoverMissing 0 2)
unfolding below
an_uncovered_source = refl

-- a switch wants a copied mirror
switch_without_a_copy : first_refusal (ring_of_four false) (step (Join (the 3)) ([]) ∷ step (Mirror (at 0 1) (the 3)) (0 ∷ []) ∷ step (Switch (at 0 1)) (1 ∷ []) ∷ []) (record { facts = []; chains = [] }) ≡ Some (WrongStage 2)
unfolding below
switch_without_a_copy = refl

-- d enters slot 2 and need not have left slot 1
node_in_two_slots : first_refusal (ring_of_four false) (step (Join (the 3)) ([]) ∷ step (Mirror (at 0 1) (the 3)) (0 ∷ []) ∷ step (Copy (at 0 1) Owner) (1 ∷ []) ∷ step (Switch (at 0 1)) (2 ∷ []) ∷ step (Drop (at 0 1) (the 1)) (3 ∷ []) ∷ step (Mirror (at 0 1) (the 1)) (4 ∷ []) ∷ step (Copy (at 0 1) Owner) (5 ∷ []) ∷ step (Switch (at 0 1)) (6 ∷ []) ∷ step (Mirror (at 0 2) (the 3)) (0 ∷ []) ∷ step (Copy (at 0 2) Owner) (8 ∷ []) ∷ step (Switch (at 0 2)) (9 ∷ []) ∷ []) (record { facts = []; chains = record { node = the 1; side = Both; steps = 2 ∷ [] } ∷ record { node = the 1; side = Both; steps = 6 ∷ [] } ∷ record { node = the 2; side = Both; steps = 9 ∷ [] } ∷ record { node = the 3; side = Both; steps = 2 ∷ [] } ∷ record { node = the 3; side = Both; steps = 6 ∷ [] } ∷ record { node = the 3; side = Both; steps = 9 ∷ [] } ∷ [] }) ≡ Some (SharedInPlan 8)
unfolding below
node_in_two_slots = refl

-- it has left
node_leaves_first : first_refusal (ring_of_four false) (step (Join (the 3)) ([]) ∷ step (Mirror (at 0 1) (the 3)) (0 ∷ []) ∷ step (Copy (at 0 1) Owner) (1 ∷ []) ∷ step (Switch (at 0 1)) (2 ∷ []) ∷ step (Drop (at 0 1) (the 1)) (3 ∷ []) ∷ step (Mirror (at 0 1) (the 1)) (4 ∷ []) ∷ step (Copy (at 0 1) Owner) (5 ∷ []) ∷ step (Switch (at 0 1)) (6 ∷ []) ∷ step (Mirror (at 0 2) (the 3)) (0 ∷ 7 ∷ []) ∷ step (Copy (at 0 2) Owner) (8 ∷ []) ∷ step (Switch (at 0 2)) (9 ∷ []) ∷ []) (record { facts = []; chains = record { node = the 1; side = Both; steps = 2 ∷ [] } ∷ record { node = the 1; side = Both; steps = 6 ∷ [] } ∷ record { node = the 2; side = Both; steps = 9 ∷ [] } ∷ record { node = the 3; side = Both; steps = 2 ∷ [] } ∷ record { node = the 3; side = Both; steps = 6 ∷ [] } ∷ record { node = the 3; side = Both; steps = 9 ∷ [] } ∷ [] }) ≡ None
unfolding below
node_leaves_first = refl

-- b enters slot 2 and need not have left slot 1, which it owned at the start
first_owner_in_two_slots : first_refusal (ring_of_four false) (step (Join (the 3)) ([]) ∷ step (Mirror (at 0 1) (the 3)) (0 ∷ []) ∷ step (Copy (at 0 1) Owner) (1 ∷ []) ∷ step (Switch (at 0 1)) (2 ∷ []) ∷ step (Mirror (at 0 2) (the 1)) (2 ∷ []) ∷ []) (record { facts = []; chains = record { node = the 1; side = Both; steps = 2 ∷ [] } ∷ record { node = the 3; side = Both; steps = 2 ∷ [] } ∷ [] }) ≡ Some (SharedInPlan 4)
unfolding below
first_owner_in_two_slots = refl

-- the switch is enough, b need not drop what it had
first_owner_leaves_first : first_refusal (ring_of_four false) (step (Join (the 3)) ([]) ∷ step (Mirror (at 0 1) (the 3)) (0 ∷ []) ∷ step (Copy (at 0 1) Owner) (1 ∷ []) ∷ step (Switch (at 0 1)) (2 ∷ []) ∷ step (Mirror (at 0 2) (the 1)) (3 ∷ []) ∷ []) (record { facts = []; chains = record { node = the 1; side = Both; steps = 2 ∷ [] } ∷ record { node = the 3; side = Both; steps = 2 ∷ [] } ∷ [] }) ≡ None
unfolding below
first_owner_leaves_first = refl

-- a path puts the two copies in order
a_fact : first_refusal narrow_ring (step (Join (the 3)) ([]) ∷ step (Mirror (at 0 1) (the 3)) (0 ∷ []) ∷ step (Copy (at 0 1) Owner) (1 ∷ []) ∷ step (Switch (at 0 1)) (2 ∷ []) ∷ step (Mirror (at 1 1) (the 3)) (0 ∷ 3 ∷ []) ∷ step (Copy (at 1 1) Owner) (4 ∷ []) ∷ step (Switch (at 1 1)) (5 ∷ []) ∷ []) (record { facts = (2 ∷ 3 ∷ 4 ∷ 5 ∷ []) ∷ []; chains = record { node = the 1; side = Both; steps = 2 ∷ 5 ∷ [] } ∷ record { node = the 3; side = Both; steps = 2 ∷ 5 ∷ [] } ∷ [] }) ≡ None
unfolding below
a_fact = refl

-- a link of the path is not a dependency
a_broken_fact : first_refusal narrow_ring (step (Join (the 3)) ([]) ∷ step (Mirror (at 0 1) (the 3)) (0 ∷ []) ∷ step (Copy (at 0 1) Owner) (1 ∷ []) ∷ step (Switch (at 0 1)) (2 ∷ []) ∷ step (Mirror (at 1 1) (the 3)) (0 ∷ []) ∷ step (Copy (at 1 1) Owner) (4 ∷ []) ∷ step (Switch (at 1 1)) (5 ∷ []) ∷ []) (record { facts = (2 ∷ 3 ∷ 4 ∷ 5 ∷ []) ∷ []; chains = record { node = the 1; side = Both; steps = 2 ∷ 5 ∷ [] } ∷ record { node = the 3; side = Both; steps = 2 ∷ 5 ∷ [] } ∷ [] }) ≡ Some (BadPath 0)
unfolding below
a_broken_fact = refl

-- b may take part in one transfer at a time
too_many_chains : first_refusal narrow_ring (step (Join (the 3)) ([]) ∷ step (Mirror (at 0 1) (the 3)) (0 ∷ []) ∷ step (Copy (at 0 1) Owner) (1 ∷ []) ∷ step (Switch (at 0 1)) (2 ∷ []) ∷ step (Mirror (at 1 1) (the 3)) (0 ∷ []) ∷ step (Copy (at 1 1) Owner) (4 ∷ []) ∷ step (Switch (at 1 1)) (5 ∷ []) ∷ []) (record { facts = []; chains = record { node = the 1; side = Both; steps = 2 ∷ [] } ∷ record { node = the 1; side = Both; steps = 5 ∷ [] } ∷ record { node = the 3; side = Both; steps = 2 ∷ [] } ∷ record { node = the 3; side = Both; steps = 5 ∷ [] } ∷ [] }) ≡ Some (TooManyChains 1)
unfolding below
too_many_chains = refl

-- nothing puts the two copies in order
a_broken_chain : first_refusal narrow_ring (step (Join (the 3)) ([]) ∷ step (Mirror (at 0 1) (the 3)) (0 ∷ []) ∷ step (Copy (at 0 1) Owner) (1 ∷ []) ∷ step (Switch (at 0 1)) (2 ∷ []) ∷ step (Mirror (at 1 1) (the 3)) (0 ∷ []) ∷ step (Copy (at 1 1) Owner) (4 ∷ []) ∷ step (Switch (at 1 1)) (5 ∷ []) ∷ []) (record { facts = []; chains = record { node = the 1; side = Both; steps = 2 ∷ 5 ∷ [] } ∷ record { node = the 3; side = Both; steps = 2 ∷ [] } ∷ record { node = the 3; side = Both; steps = 5 ∷ [] } ∷ [] }) ≡ Some (ChainBroken 0)
unfolding below
a_broken_chain = refl

-- a dependency does
a_chain : first_refusal narrow_ring (step (Join (the 3)) ([]) ∷ step (Mirror (at 0 1) (the 3)) (0 ∷ []) ∷ step (Copy (at 0 1) Owner) (1 ∷ []) ∷ step (Switch (at 0 1)) (2 ∷ []) ∷ step (Mirror (at 1 1) (the 3)) (0 ∷ []) ∷ step (Copy (at 1 1) Owner) (2 ∷ 4 ∷ []) ∷ step (Switch (at 1 1)) (5 ∷ []) ∷ []) (record { facts = []; chains = record { node = the 1; side = Both; steps = 2 ∷ 5 ∷ [] } ∷ record { node = the 3; side = Both; steps = 2 ∷ 5 ∷ [] } ∷ [] }) ≡ None
unfolding below
a_chain = refl

-- slot 2 may switch while it is read
a_moving_source : first_refusal wide_ring (step (Join (the 3)) ([]) ∷ step (Mirror (at 0 1) (the 3)) (0 ∷ []) ∷ step (Copy (at 0 1) (Slots (0 ∷ 2 ∷ []))) (1 ∷ []) ∷ step (Switch (at 0 1)) (2 ∷ []) ∷ step (Join (the 4)) ([]) ∷ step (Mirror (at 0 2) (the 4)) (4 ∷ []) ∷ step (Copy (at 0 2) Owner) (5 ∷ []) ∷ step (Switch (at 0 2)) (6 ∷ []) ∷ []) (record { facts = []; chains = record { node = the 0; side = Both; steps = 2 ∷ [] } ∷ record { node = the 2; side = Both; steps = 2 ∷ [] } ∷ record { node = the 2; side = Both; steps = 6 ∷ [] } ∷ record { node = the 3; side = Both; steps = 2 ∷ [] } ∷ record { node = the 4; side = Both; steps = 6 ∷ [] } ∷ [] }) ≡ Some (MovingSource 2)
unfolding below
a_moving_source = refl

-- slot 2 switches behind the copy
a_settled_source : first_refusal wide_ring (step (Join (the 3)) ([]) ∷ step (Mirror (at 0 1) (the 3)) (0 ∷ []) ∷ step (Copy (at 0 1) (Slots (0 ∷ 2 ∷ []))) (1 ∷ []) ∷ step (Switch (at 0 1)) (2 ∷ []) ∷ step (Join (the 4)) ([]) ∷ step (Mirror (at 0 2) (the 4)) (4 ∷ []) ∷ step (Copy (at 0 2) Owner) (5 ∷ []) ∷ step (Switch (at 0 2)) (2 ∷ 6 ∷ []) ∷ []) (record { facts = []; chains = record { node = the 0; side = Both; steps = 2 ∷ [] } ∷ record { node = the 2; side = Both; steps = 2 ∷ [] } ∷ record { node = the 2; side = Both; steps = 6 ∷ [] } ∷ record { node = the 3; side = Both; steps = 2 ∷ [] } ∷ record { node = the 4; side = Both; steps = 6 ∷ [] } ∷ [] }) ≡ None
unfolding below
a_settled_source = refl

-- a node that dropped what it had may be mirrored again
there_and_back : first_refusal (ring_of_four false) (step (Join (the 3)) ([]) ∷ step (Mirror (at 0 1) (the 3)) (0 ∷ []) ∷ step (Copy (at 0 1) Owner) (1 ∷ []) ∷ step (Switch (at 0 1)) (2 ∷ []) ∷ step (Drop (at 0 1) (the 1)) (3 ∷ []) ∷ step (Mirror (at 0 1) (the 1)) (4 ∷ []) ∷ step (Copy (at 0 1) Owner) (5 ∷ []) ∷ step (Switch (at 0 1)) (6 ∷ []) ∷ []) (record { facts = []; chains = record { node = the 1; side = Both; steps = 2 ∷ [] } ∷ record { node = the 1; side = Both; steps = 6 ∷ [] } ∷ record { node = the 3; side = Both; steps = 2 ∷ [] } ∷ record { node = the 3; side = Both; steps = 6 ∷ [] } ∷ [] }) ≡ None
unfolding below
there_and_back = refl

-- a leftover may not be mirrored
back_before_the_drop : first_refusal (ring_of_four false) (step (Join (the 3)) ([]) ∷ step (Mirror (at 0 1) (the 3)) (0 ∷ []) ∷ step (Copy (at 0 1) Owner) (1 ∷ []) ∷ step (Switch (at 0 1)) (2 ∷ []) ∷ step (Mirror (at 0 1) (the 1)) (3 ∷ []) ∷ step (Drop (at 0 1) (the 1)) (4 ∷ []) ∷ []) (record { facts = []; chains = record { node = the 1; side = Both; steps = 2 ∷ [] } ∷ record { node = the 3; side = Both; steps = 2 ∷ [] } ∷ [] }) ≡ Some (WrongStage 4)
unfolding below
back_before_the_drop = refl

-- b retires and still holds what it owns
a_retirement_in_use : first_refusal (ring_of_four false) (step (Retire (the 1)) ([]) ∷ []) (record { facts = []; chains = [] }) ≡ Some (RetiredInUse 0)
unfolding below
a_retirement_in_use = refl

-- d is `out`, and nothing makes it join first
a_mirror_that_never_joined : first_refusal (ring_of_four false) (step (Join (the 3)) ([]) ∷ step (Mirror (at 0 1) (the 3)) ([]) ∷ []) (record { facts = []; chains = [] }) ≡ Some (NotJoined 1)
unfolding below
a_mirror_that_never_joined = refl

-- a copy need not come after its mirror
an_unordered_copy : first_refusal (ring_of_four false) (step (Join (the 3)) ([]) ∷ step (Mirror (at 0 1) (the 3)) (0 ∷ []) ∷ step (Copy (at 0 1) Owner) ([]) ∷ []) (record { facts = []; chains = [] }) ≡ Some (UnorderedSlot 2)
unfolding below
an_unordered_copy = refl

-- a plan without steps
no_plan_at_all : first_refusal (ring_of_four false) ([]) (record { facts = []; chains = [] }) ≡ None
unfolding below
no_plan_at_all = refl
