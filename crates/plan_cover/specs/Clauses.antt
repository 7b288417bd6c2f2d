-- The clauses that a node must meet: for the retirement, for the chains, and for the copies in which the node
-- takes part.
use Rattle.std.specs.Prelude.{ℕ, ◌+◌, Bool, true, false, not, ◌&&◌, ◌||◌, ◌==◌, nat_le}
use Rattle.std.specs.Prelude.{List, [], ◌∷◌, ◌++◌, length, min, Some, None, is_some, if◌then◌else◌}
use Rattle.ring_names.specs.Lists.{has}
use Rattle.ring_names.specs.declared.ids.NodeId.{NodeId}
use Rattle.ring_names.specs.declared.refusal.Refusal.TheVariants.{NotJoined, CoverMissing, ChainBroken, TooManyChains}
use Rattle.ring_table.specs.declared.allowance.Side.{Side}
use Rattle.ring_table.specs.declared.allowance.Side.TheVariants.{Both, Take, Give}
use Rattle.ring_table.specs.Value.{RingValue, is_side, allowance_of}
use Rattle.plan_text.specs.declared.step.Step.{Step}
use Rattle.plan_text.specs.declared.step.Planned.{Planned}
use Rattle.plan_text.specs.Steps.{is_retire_of}
use Rattle.plan_cert.specs.declared.cert.Chain.{Chain}
use Rattle.plan_cert.specs.declared.cert.Cert.{Cert}
use Rattle.plan_stage.specs.Stage.{is_among}
use Rattle.plan_stage.specs.Clauses.{Guard}
use Rattle.plan_stage.specs.Occupancy.{is_node}
use Rattle.plan_stage.specs.Parties.{parties_on}
use Rattle.plan_stage.specs.Partition.{Test, has_joined, steps_clauses}

-- the step is in one of the chains
abbrev pub in_some : ℕ → List (List ℕ) → Bool
in_some n [] = false
in_some n (c ∷ cs) = has n c || in_some n cs

-- the chain is of that side of the node
abbrev pub is_of : ℕ → Side → Chain → Bool
is_of x side c = (x == c.node.0) && is_side side c.side

-- the chains of that side of a node, in the order written
abbrev pub chains_from : ℕ → Side → List Chain → List (List ℕ)
chains_from x side [] = []
chains_from x side (c ∷ cs) = if is_of x side c then c.steps ∷ chains_from x side cs else chains_from x side cs

-- ---- the clauses

-- a step that retires the node, if it is `out` at the start
abbrev pub retire_clauses : RingValue → List Planned → Test → NodeId → ℕ → Step → List Guard
retire_clauses ring plan O x n s = if is_retire_of x.0 s then (has_joined ring plan O n x, NotJoined n) ∷ [] else []

-- each entry passes the test, and comes before the next
abbrev pub is_linked : (ℕ → Bool) → Test → List ℕ → Bool
is_linked test O [] = true
is_linked test O (a ∷ []) = test a
is_linked test O (a ∷ b ∷ rest) = test a && O a b && is_linked test O (b ∷ rest)

-- each entry is a copy in which the node takes part on that side, and comes before the next
abbrev pub is_good_chain : RingValue → List Planned → Test → NodeId → Side → List ℕ → Bool
is_good_chain ring plan O x side steps = is_linked (λ n. is_among x (parties_on ring plan side n)) O steps

-- the node has that side
abbrev pub has_side : RingValue → NodeId → Side → Bool
has_side ring x side = is_some (allowance_of ring x.0 side)

-- the chains that are the node's, by number; those from 2 ^ 32 - 1 on all have that number
abbrev pub chains_clauses : RingValue → List Planned → Test → NodeId → ℕ → List Chain → List Guard
chains_clauses ring plan O x k [] = []
chains_clauses ring plan O x k (c ∷ cs) =
    (not (is_node x c.node) || (has_side ring x c.side && is_good_chain ring plan O x c.side c.steps), ChainBroken (min k 4294967295))
    ∷ chains_clauses ring plan O x (k + 1) cs

-- a copy in which the node takes part on that side is in one of its chains
abbrev pub cover_clauses : RingValue → List Planned → List (List ℕ) → NodeId → Side → ℕ → Step → List Guard
cover_clauses ring plan chains x side n s =
    if is_among x (parties_on ring plan side n) then (in_some n chains, CoverMissing x.0 n) ∷ [] else []

-- where the node has that side: its copies on that side, by number
abbrev pub side_covers : RingValue → List Planned → Cert → NodeId → Side → List Guard
side_covers ring plan cert x side =
    if has_side ring x side then steps_clauses (cover_clauses ring plan (chains_from x.0 side cert.chains) x side) 0 plan else []

-- the node may take part in n open copies on that side, if it has it
abbrev pub is_few : RingValue → NodeId → Side → ℕ → Bool
is_few ring x side n = elim (allowance_of ring x.0 side) [ Some a ↦ nat_le n a | None ↦ true ]

-- how many chains of that side there are
abbrev pub side_count : RingValue → Cert → NodeId → Side → List Guard
side_count ring cert x side = (is_few ring x side (length (chains_from x.0 side cert.chains)), TooManyChains x.0) ∷ []

-- the clauses of all sides, one side behind another
abbrev pub each_side : (Side → List Guard) → List Guard
each_side clauses = clauses Both ++ (clauses Take ++ clauses Give)

-- the retirement, the chains by number, and side by side the copies by number and then how many chains there are
abbrev pub node_clauses : RingValue → List Planned → Cert → Test → NodeId → List Guard
node_clauses ring plan cert O x = steps_clauses (retire_clauses ring plan O x) 0 plan
    ++ (chains_clauses ring plan O x 0 cert.chains
    ++ (each_side (side_covers ring plan cert x)
    ++ each_side (side_count ring cert x)))
