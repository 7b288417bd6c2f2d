-- Worked examples: what events are answered, one after the other.
use Rattle.std.proofs.Common.{◌≡◌, ℕ, List, [], ◌∷◌, map, codes, Result, Ok, Err, Option, Some, refl, true, false, Bool}
use Rattle.ring_names.specs.declared.ids.NodeId.{NodeId}
use Rattle.ring_names.specs.declared.ids.Slot.{Slot}
use Rattle.ring_names.specs.declared.refusal.Refusal.{Refusal}
use Rattle.ring_names.specs.declared.refusal.Refusal.TheVariants.{AlreadyDone, NodeDown, KeeperTaken, KeeperInPartition, StaleTickets, TooFewSlots, UnknownNumber, HintsLeft, NotOpen, ChunksLeft, NotMember, LossesSpent}
use Rattle.md5.specs.Md5.{block_words, rounds, compress, hash_after, digest_bytes, md5}
use Rattle.ring_space.specs.Place.{log2, place_of}
use Rattle.ring_table.specs.Value.{RingValue}
use Rattle.ring_table.specs.declared.allowance.Allowance.TheVariants.{Joint}
use Rattle.ring_table.specs.declared.node.Node.{Node}
use Rattle.plan_text.specs.declared.step.Source.TheVariants.{Owner}
use Rattle.plan_text.specs.declared.step.Step.{Step}
use Rattle.plan_text.specs.declared.step.Step.TheVariants.{Join, Mirror, Copy, Switch, Drop}
use Rattle.plan_text.specs.declared.step.Planned.{Planned}
use Rattle.plan_runs.specs.declared.event.Event.{Event}
use Rattle.plan_runs.specs.declared.event.Event.TheVariants.{Do, OpenCopy, ChunkCopy, CloseCopy, AbortCopy, StartPut, Write, Hint, Ack, StartGet, Read, EndGet, Down, Up, Handoff, Lose}
use Rattle.plan_runs.specs.declared.event.Reply.{Reply}
use Rattle.plan_runs.specs.declared.event.Reply.TheVariants as reply
use Rattle.plan_runs.specs.World.{World, opening_world, passing_below, is_acked, reply_of, generation}
use Rattle.plan_runs.specs.Versions.{is_held}
use Rattle.plan_runs.specs.Guards.{guards}
use Rattle.plan_runs.specs.Effects.{effect, lose_effect}
use Rattle.plan_runs.specs.Answers.{answer}

-- what each event is answered; a refused one changes nothing
abbrev replies : RingValue → List Planned → World → List Event → List (Result Reply Refusal)
replies ring plan w [] = []
replies ring plan w (e ∷ es) = elim (answer ring plan w e) [ Ok x ↦ Ok x.1 ∷ replies ring plan x.0 es | Err r ↦ Err r ∷ replies ring plan w es ]

-- the world to which the events lead; a refused one changes nothing
abbrev world_after : RingValue → List Planned → World → List Event → World
world_after ring plan w [] = w
world_after ring plan w (e ∷ es) = elim (answer ring plan w e) [ Ok x ↦ world_after ring plan x.0 es | Err r ↦ world_after ring plan w es ]

abbrev pub node : List ℕ → ℕ → Bool → Node
node name most is_member = record { name = name; allowance = Joint most; is_member = is_member }

abbrev pub the : ℕ → NodeId
the x = record { 0 = x }

abbrev pub at : ℕ → ℕ → Slot
at p i = record { partition = p; index = i }

abbrev pub step : Step → List ℕ → Planned
step s after = record { step = s; after = after }

-- four nodes, of which d is a member or not
abbrev pub ring_of_four : Bool → RingValue
ring_of_four d = record {
  format = 1;
  q = 4;
  n = 3;
  r = 2;
  w = 2;
  loss = 0;
  nodes = node (codes "a") 4 true ∷ node (codes "b") 4 true ∷ node (codes "c") 4 true ∷ node (codes "d") 4 d ∷ [];
  owners = (the 0 ∷ the 1 ∷ the 2 ∷ []) ∷ (the 0 ∷ the 1 ∷ the 2 ∷ []) ∷ (the 0 ∷ the 1 ∷ the 2 ∷ []) ∷ (the 0 ∷ the 1 ∷ the 2 ∷ []) ∷ [];
}

digest_of_a : md5 (97 ∷ []) ≡ 12 ∷ 193 ∷ 117 ∷ 185 ∷ 192 ∷ 241 ∷ 182 ∷ 168 ∷ 49 ∷ 195 ∷ 153 ∷ 226 ∷ 105 ∷ 119 ∷ 38 ∷ 97 ∷ []
unfolding block_words rounds compress hash_after digest_bytes md5
digest_of_a = refl

place_of_a : place_of 4 (97 ∷ []) ≡ record { partition = 0; chunk = 3 }
unfolding log2
place_of_a = rw digest_of_a refl

-- slot 1 of partition 0 moves from b to d
abbrev moves_to_d : List Planned
moves_to_d = step (Join (the 3)) [] ∷ step (Mirror (at 0 1) (the 3)) (0 ∷ []) ∷ step (Copy (at 0 1) Owner) (1 ∷ []) ∷ step (Switch (at 0 1)) (2 ∷ []) ∷ step (Drop (at 0 1) (the 1)) (3 ∷ []) ∷ []

abbrev to_third_slot : List Planned
to_third_slot = step (Mirror (at 0 2) (the 3)) [] ∷ step (Copy (at 0 2) Owner) (0 ∷ []) ∷ step (Switch (at 0 2)) (1 ∷ []) ∷ []

-- a node that keeps a hint for a slot may not serve another slot of the partition. Nor may a node that serves
-- one keep a hint for another
keeper_in_the_way : replies (ring_of_four true) to_third_slot (opening_world (ring_of_four true))
    (StartPut (record { 0 = 0 }) (codes "a") (49 ∷ []) ([]) ∷ Hint 0 1 (the 3) ∷ Hint 0 2 (the 3) ∷ Do 0 ∷ Handoff (the 3) (at 0 1) ∷ Do 0 ∷ Hint 0 1 (the 3) ∷ [])
    ≡ Ok (reply.Put 0) ∷ Ok (reply.Ticket (at 0 1) 0) ∷ Err KeeperTaken ∷ Err HintsLeft ∷ Ok reply.Plain ∷ Ok reply.Plain ∷ Err KeeperInPartition ∷ []
unfolding guards effect log2 block_words rounds compress hash_after digest_bytes md5
keeper_in_the_way = refl

-- a ticket from before the mirror began does not count for an acknowledgement
stale_ticket : replies (ring_of_four false) moves_to_d (opening_world (ring_of_four false))
    (StartPut (record { 0 = 0 }) (codes "a") (49 ∷ []) ([]) ∷ Write 0 0 ∷ Write 0 1 ∷ Do 0 ∷ Do 1 ∷ Ack 0 ∷ Write 0 1 ∷ Ack 0 ∷ [])
    ≡ Ok (reply.Put 0) ∷ Ok (reply.Ticket (at 0 0) 0) ∷ Ok (reply.Ticket (at 0 1) 0) ∷ Ok reply.Plain ∷ Ok reply.Plain ∷ Err (StaleTickets 1) ∷ Ok (reply.Ticket (at 0 1) 1) ∷ Ok reply.Plain ∷ []
unfolding guards effect log2 block_words rounds compress hash_after digest_bytes md5
stale_ticket = refl

-- marks stay when a copy is broken off
aborted_copy : replies (ring_of_four false) moves_to_d (opening_world (ring_of_four false))
    (Do 0 ∷ Do 1 ∷ OpenCopy 2 ∷ ChunkCopy 2 0 ∷ ChunkCopy 2 1 ∷ ChunkCopy 2 2 ∷ ChunkCopy 2 3 ∷ ChunkCopy 2 4 ∷ ChunkCopy 2 5 ∷ ChunkCopy 2 6 ∷ AbortCopy 2 ∷ OpenCopy 2 ∷ ChunkCopy 2 6 ∷ CloseCopy 2 ∷ ChunkCopy 2 7 ∷ ChunkCopy 2 8 ∷ ChunkCopy 2 9 ∷ ChunkCopy 2 10 ∷ ChunkCopy 2 11 ∷ ChunkCopy 2 12 ∷ ChunkCopy 2 13 ∷ ChunkCopy 2 14 ∷ ChunkCopy 2 15 ∷ CloseCopy 2 ∷ AbortCopy 2 ∷ OpenCopy 2 ∷ [])
    ≡ Ok reply.Plain ∷ Ok reply.Plain ∷ Ok reply.Plain ∷ Ok reply.Plain ∷ Ok reply.Plain ∷ Ok reply.Plain ∷ Ok reply.Plain ∷ Ok reply.Plain ∷ Ok reply.Plain ∷ Ok reply.Plain ∷ Ok reply.Plain ∷ Ok reply.Plain ∷ Err AlreadyDone ∷ Err (ChunksLeft 9) ∷ Ok reply.Plain ∷ Ok reply.Plain ∷ Ok reply.Plain ∷ Ok reply.Plain ∷ Ok reply.Plain ∷ Ok reply.Plain ∷ Ok reply.Plain ∷ Ok reply.Plain ∷ Ok reply.Plain ∷ Ok reply.Plain ∷ Err NotOpen ∷ Err AlreadyDone ∷ []
unfolding guards effect log2 block_words rounds compress hash_after digest_bytes md5
aborted_copy = refl

abbrev ring_of_five : RingValue
ring_of_five = record {
  format = 1;
  q = 4;
  n = 3;
  r = 2;
  w = 2;
  loss = 0;
  nodes = node (codes "a") 4 true ∷ node (codes "b") 4 true ∷ node (codes "c") 4 true ∷ node (codes "d") 4 true ∷ node (codes "e") 4 false ∷ [];
  owners = (the 0 ∷ the 1 ∷ the 2 ∷ []) ∷ (the 0 ∷ the 1 ∷ the 2 ∷ []) ∷ (the 0 ∷ the 1 ∷ the 2 ∷ []) ∷ (the 0 ∷ the 1 ∷ the 2 ∷ []) ∷ [];
}

abbrev moves_to_e : List Planned
moves_to_e = step (Join (the 4)) [] ∷ step (Mirror (at 0 1) (the 4)) (0 ∷ []) ∷ step (Copy (at 0 1) Owner) (1 ∷ []) ∷ step (Switch (at 0 1)) (2 ∷ []) ∷ step (Drop (at 0 1) (the 1)) (3 ∷ []) ∷ []

-- a hint is handed to the node that owns its slot by then, and the put is found there
hint_follows_its_slot : replies ring_of_five moves_to_e (opening_world ring_of_five)
    (Down (the 1) ∷ StartPut (record { 0 = 0 }) (codes "a") (49 ∷ []) ([]) ∷ Write 0 0 ∷ Write 0 1 ∷ Hint 0 1 (the 3) ∷ Ack 0 ∷ Up (the 1) ∷ Do 0 ∷ Do 1 ∷ OpenCopy 2 ∷ ChunkCopy 2 0 ∷ ChunkCopy 2 1 ∷ ChunkCopy 2 2 ∷ ChunkCopy 2 3 ∷ ChunkCopy 2 4 ∷ ChunkCopy 2 5 ∷ ChunkCopy 2 6 ∷ ChunkCopy 2 7 ∷ ChunkCopy 2 8 ∷ ChunkCopy 2 9 ∷ ChunkCopy 2 10 ∷ ChunkCopy 2 11 ∷ ChunkCopy 2 12 ∷ ChunkCopy 2 13 ∷ ChunkCopy 2 14 ∷ ChunkCopy 2 15 ∷ CloseCopy 2 ∷ Do 3 ∷ Handoff (the 3) (at 0 1) ∷ Down (the 3) ∷ StartGet (codes "a") ∷ Read 0 1 ∷ Read 0 2 ∷ EndGet 0 ∷ [])
    ≡ Ok reply.Plain ∷ Ok (reply.Put 0) ∷ Ok (reply.Ticket (at 0 0) 0) ∷ Err (NodeDown 1) ∷ Ok (reply.Ticket (at 0 1) 0) ∷ Ok reply.Plain ∷ Ok reply.Plain ∷ Ok reply.Plain ∷ Ok reply.Plain ∷ Ok reply.Plain ∷ Ok reply.Plain ∷ Ok reply.Plain ∷ Ok reply.Plain ∷ Ok reply.Plain ∷ Ok reply.Plain ∷ Ok reply.Plain ∷ Ok reply.Plain ∷ Ok reply.Plain ∷ Ok reply.Plain ∷ Ok reply.Plain ∷ Ok reply.Plain ∷ Ok reply.Plain ∷ Ok reply.Plain ∷ Ok reply.Plain ∷ Ok reply.Plain ∷ Ok reply.Plain ∷ Ok reply.Plain ∷ Ok reply.Plain ∷ Ok reply.Plain ∷ Ok reply.Plain ∷ Ok (reply.Get 0) ∷ Ok (reply.Found (0 ∷ [])) ∷ Ok (reply.Found ([])) ∷ Ok (reply.Answer (0 ∷ [])) ∷ []
unfolding guards effect log2 block_words rounds compress hash_after digest_bytes md5
hint_follows_its_slot = refl

-- a hint is handed to the mirror too, whose copy may have its chunk behind it already
hint_reaches_the_mirror : replies ring_of_five moves_to_e (opening_world ring_of_five)
    (Down (the 1) ∷ StartPut (record { 0 = 0 }) (codes "a") (49 ∷ []) ([]) ∷ Write 0 0 ∷ Hint 0 1 (the 3) ∷ Ack 0 ∷ Up (the 1) ∷ Do 0 ∷ Do 1 ∷ OpenCopy 2 ∷ ChunkCopy 2 0 ∷ ChunkCopy 2 1 ∷ ChunkCopy 2 2 ∷ ChunkCopy 2 3 ∷ ChunkCopy 2 4 ∷ ChunkCopy 2 5 ∷ ChunkCopy 2 6 ∷ ChunkCopy 2 7 ∷ ChunkCopy 2 8 ∷ ChunkCopy 2 9 ∷ ChunkCopy 2 10 ∷ ChunkCopy 2 11 ∷ ChunkCopy 2 12 ∷ ChunkCopy 2 13 ∷ ChunkCopy 2 14 ∷ ChunkCopy 2 15 ∷ Handoff (the 3) (at 0 1) ∷ Handoff (the 3) (at 0 1) ∷ CloseCopy 2 ∷ Do 3 ∷ StartGet (codes "a") ∷ Read 0 1 ∷ Read 0 2 ∷ EndGet 0 ∷ [])
    ≡ Ok reply.Plain ∷ Ok (reply.Put 0) ∷ Ok (reply.Ticket (at 0 0) 0) ∷ Ok (reply.Ticket (at 0 1) 0) ∷ Ok reply.Plain ∷ Ok reply.Plain ∷ Ok reply.Plain ∷ Ok reply.Plain ∷ Ok reply.Plain ∷ Ok reply.Plain ∷ Ok reply.Plain ∷ Ok reply.Plain ∷ Ok reply.Plain ∷ Ok reply.Plain ∷ Ok reply.Plain ∷ Ok reply.Plain ∷ Ok reply.Plain ∷ Ok reply.Plain ∷ Ok reply.Plain ∷ Ok reply.Plain ∷ Ok reply.Plain ∷ Ok reply.Plain ∷ Ok reply.Plain ∷ Ok reply.Plain ∷ Ok reply.Plain ∷ Ok reply.Plain ∷ Err AlreadyDone ∷ Ok reply.Plain ∷ Ok reply.Plain ∷ Ok (reply.Get 0) ∷ Ok (reply.Found (0 ∷ [])) ∷ Ok (reply.Found ([])) ∷ Ok (reply.Answer (0 ∷ [])) ∷ []
unfolding guards effect log2 block_words rounds compress hash_after digest_bytes md5
hint_reaches_the_mirror = refl

-- which slots of partition 0 hold put 0, whether it is acknowledged, and what get 0 was answered
record Kept : Type 0 where
  holders : List ℕ
  acked : Bool
  reply : Option (List ℕ)

abbrev kept : RingValue → List Planned → World → Kept
kept ring plan w = record { holders = passing_below ring.n (λ i. is_held ring plan w 0 (at 0 i)); acked = is_acked w 0; reply = reply_of w 0 }

abbrev handed_over : List Event
handed_over = Down (the 1) ∷ StartPut (record { 0 = 0 }) (codes "a") (49 ∷ []) ([]) ∷ Write 0 0 ∷ Hint 0 1 (the 3) ∷ Ack 0 ∷ Up (the 1) ∷ Do 0 ∷ Do 1 ∷ Handoff (the 3) (at 0 1) ∷ StartGet (codes "a") ∷ Read 0 1 ∷ Read 0 2 ∷ EndGet 0 ∷ []

-- two of three slots hold an acknowledged put, so each two slots include one of them. A get that starts
-- afterwards is answered the put
held_and_read : kept ring_of_five moves_to_e (world_after ring_of_five moves_to_e (opening_world ring_of_five) handed_over) ≡ record { holders = 0 ∷ 1 ∷ []; acked = true; reply = Some (0 ∷ []) }
unfolding guards effect log2 block_words rounds compress hash_after digest_bytes md5
held_and_read = refl

abbrev overwritten : List Event
overwritten = StartPut (record { 0 = 0 }) (codes "a") (49 ∷ []) ([]) ∷ Write 0 0 ∷ Write 0 1 ∷ Ack 0 ∷ StartPut (record { 0 = 0 }) (codes "a") (50 ∷ []) ([]) ∷ Write 1 2 ∷ StartGet (codes "a") ∷ Read 0 0 ∷ Read 0 2 ∷ EndGet 0 ∷ []

-- a slot that has a later put of the same writer holds the put too, and a get is answered the later put
held_by_a_successor : kept (ring_of_four false) [] (world_after (ring_of_four false) [] (opening_world (ring_of_four false)) overwritten) ≡ record { holders = 0 ∷ 1 ∷ 2 ∷ []; acked = true; reply = Some (1 ∷ []) }
unfolding guards effect log2 block_words rounds compress hash_after digest_bytes md5
held_by_a_successor = refl

-- concurrent puts are both answered, and one that has seen both hides them
two_writers : replies (ring_of_four false) [] (opening_world (ring_of_four false))
    (StartPut (record { 0 = 0 }) (codes "abc") (49 ∷ []) ([]) ∷ StartPut (record { 0 = 1 }) (codes "abc") (50 ∷ []) ([]) ∷ Write 0 0 ∷ Write 0 1 ∷ Write 1 0 ∷ Write 1 1 ∷ Ack 0 ∷ Ack 1 ∷ StartGet (codes "abc") ∷ Read 0 1 ∷ Read 0 2 ∷ EndGet 0 ∷ StartPut (record { 0 = 0 }) (codes "abc") (51 ∷ []) (0 ∷ []) ∷ Write 2 0 ∷ Write 2 2 ∷ Ack 2 ∷ StartGet (codes "abc") ∷ Read 1 0 ∷ Read 1 1 ∷ EndGet 1 ∷ [])
    ≡ Ok (reply.Put 0) ∷ Ok (reply.Put 1) ∷ Ok (reply.Ticket (at 2 0) 0) ∷ Ok (reply.Ticket (at 2 1) 0) ∷ Ok (reply.Ticket (at 2 0) 0) ∷ Ok (reply.Ticket (at 2 1) 0) ∷ Ok reply.Plain ∷ Ok reply.Plain ∷ Ok (reply.Get 0) ∷ Ok (reply.Found (0 ∷ 1 ∷ [])) ∷ Ok (reply.Found ([])) ∷ Ok (reply.Answer (0 ∷ 1 ∷ [])) ∷ Ok (reply.Put 2) ∷ Ok (reply.Ticket (at 2 0) 0) ∷ Ok (reply.Ticket (at 2 2) 0) ∷ Ok reply.Plain ∷ Ok (reply.Get 1) ∷ Ok (reply.Found (2 ∷ [])) ∷ Ok (reply.Found (0 ∷ 1 ∷ [])) ∷ Ok (reply.Answer (2 ∷ [])) ∷ []
unfolding guards effect log2 block_words rounds compress hash_after digest_bytes md5
two_writers = refl

-- a get ends only when R slots were read
too_few_slots : replies (ring_of_four false) [] (opening_world (ring_of_four false))
    (StartGet (codes "a") ∷ Read 0 1 ∷ Read 0 1 ∷ EndGet 0 ∷ Read 0 3 ∷ Read 0 2 ∷ EndGet 0 ∷ EndGet 0 ∷ [])
    ≡ Ok (reply.Get 0) ∷ Ok (reply.Found ([])) ∷ Err AlreadyDone ∷ Err (TooFewSlots 1) ∷ Err UnknownNumber ∷ Ok (reply.Found ([])) ∷ Ok (reply.Answer ([])) ∷ Err AlreadyDone ∷ []
unfolding guards effect log2 block_words rounds compress hash_after digest_bytes md5
too_few_slots = refl

-- ---- a node loses its store

-- for put 0 and slot 1 of partition 0, the nodes that store the put and those that keep it as a hint. Also the
-- generations of the partition's slots, and how often nodes lost their data
record Left : Type 0 where
  storers : List ℕ
  keepers : List ℕ
  generations : List ℕ
  losses : ℕ

abbrev left : List Planned → World → Left
left plan w = record {
  storers = passing_below 4 (λ x. w.stored x (at 0 1) 0);
  keepers = passing_below 4 (λ x. w.hinted x (at 0 1) 0);
  generations = map (λ i. generation plan w (at 0 i)) (0 ∷ 1 ∷ 2 ∷ []);
  losses = w.losses;
}

-- b stores put 0 for its slot, and d keeps it as a hint
abbrev stored_and_hinted : World
stored_and_hinted = world_after (ring_of_four true) [] (opening_world (ring_of_four true)) (StartPut (record { 0 = 0 }) (codes "a") (49 ∷ []) ([]) ∷ Write 0 1 ∷ Hint 0 1 (the 3) ∷ [])

before_a_loss : left [] stored_and_hinted ≡ record { storers = 1 ∷ []; keepers = 3 ∷ []; generations = 0 ∷ 0 ∷ 0 ∷ []; losses = 0 }
unfolding guards effect log2 block_words rounds compress hash_after digest_bytes md5
before_a_loss = refl

-- an owner that loses its data has nothing of its slot, and the slot's generation grows by 1
owner_loses : left [] (lose_effect (ring_of_four true) [] stored_and_hinted (the 1)) ≡ record { storers = []; keepers = 3 ∷ []; generations = 0 ∷ 1 ∷ 0 ∷ []; losses = 1 }
unfolding guards effect log2 block_words rounds compress hash_after digest_bytes md5
owner_loses = refl

-- so has a keeper, and the generation is one more too
keeper_loses : left [] (lose_effect (ring_of_four true) [] stored_and_hinted (the 3)) ≡ record { storers = 1 ∷ []; keepers = []; generations = 0 ∷ 1 ∷ 0 ∷ []; losses = 1 }
unfolding guards effect log2 block_words rounds compress hash_after digest_bytes md5
keeper_loses = refl

-- once it has nothing it is in no group, and a second loss changes no generation
keeper_loses_again : left [] (lose_effect (ring_of_four true) [] (lose_effect (ring_of_four true) [] stored_and_hinted (the 3)) (the 3)) ≡ record { storers = 1 ∷ []; keepers = []; generations = 0 ∷ 1 ∷ 0 ∷ []; losses = 2 }
unfolding guards effect log2 block_words rounds compress hash_after digest_bytes md5
keeper_loses_again = refl

-- an owner is in its group with or without a store
owner_loses_again : left [] (lose_effect (ring_of_four true) [] (lose_effect (ring_of_four true) [] stored_and_hinted (the 1)) (the 1)) ≡ record { storers = []; keepers = 3 ∷ []; generations = 0 ∷ 2 ∷ 0 ∷ []; losses = 2 }
unfolding guards effect log2 block_words rounds compress hash_after digest_bytes md5
owner_loses_again = refl

-- every node stores and keeps the put for every slot
abbrev all_have_it : World
all_have_it = record stored_and_hinted { stored = λ x s v. true; hinted = λ x s v. true }

-- b, which stores and keeps, has neither after it, and the others have both
one_of_all_loses : left [] (lose_effect (ring_of_four true) [] all_have_it (the 1)) ≡ record { storers = 0 ∷ 2 ∷ 3 ∷ []; keepers = 0 ∷ 2 ∷ 3 ∷ []; generations = 1 ∷ 1 ∷ 1 ∷ []; losses = 1 }
unfolding guards effect log2 block_words rounds compress hash_after digest_bytes md5
one_of_all_loses = refl

-- a mirror that loses its data: one generation is of the mirror's beginning, and another of the loss
mirror_loses : left moves_to_d (lose_effect (ring_of_four false) moves_to_d (world_after (ring_of_four false) moves_to_d (opening_world (ring_of_four false)) (Do 0 ∷ Do 1 ∷ [])) (the 3)) ≡ record { storers = []; keepers = []; generations = 0 ∷ 2 ∷ 0 ∷ []; losses = 1 }
unfolding guards effect
mirror_loses = refl

-- a node that is not a member loses nothing
outsider_loses_nothing : replies (ring_of_four false) [] (opening_world (ring_of_four false)) (Lose (the 3) ∷ []) ≡ Err (NotMember 3) ∷ []
unfolding guards effect
outsider_loses_nothing = refl

-- nor does a member of a ring that allows no loss
no_loss_is_allowed : replies (ring_of_four false) [] (opening_world (ring_of_four false)) (Lose (the 0) ∷ []) ≡ Err LossesSpent ∷ []
unfolding guards effect
no_loss_is_allowed = refl

-- a write is in all three slots, and one store may be lost
abbrev ring_with_a_loss : RingValue
ring_with_a_loss = record (ring_of_four false) { w = 3; loss = 1 }

-- a ticket from before a loss does not count for an acknowledgement
ticket_before_a_loss : replies ring_with_a_loss [] (opening_world ring_with_a_loss)
    (StartPut (record { 0 = 0 }) (codes "a") (49 ∷ []) ([]) ∷ Write 0 0 ∷ Write 0 1 ∷ Lose (the 1) ∷ Write 0 2 ∷ Ack 0 ∷ Write 0 1 ∷ Ack 0 ∷ Lose (the 3) ∷ Lose (the 0) ∷ [])
    ≡ Ok (reply.Put 0) ∷ Ok (reply.Ticket (at 0 0) 0) ∷ Ok (reply.Ticket (at 0 1) 0) ∷ Ok reply.Plain ∷ Ok (reply.Ticket (at 0 2) 0) ∷ Err (StaleTickets 2) ∷ Ok (reply.Ticket (at 0 1) 1) ∷ Ok reply.Plain ∷ Err (NotMember 3) ∷ Err LossesSpent ∷ []
unfolding guards effect log2 block_words rounds compress hash_after digest_bytes md5
ticket_before_a_loss = refl
