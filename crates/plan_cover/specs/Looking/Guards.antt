-- How the checker looks at a clause: the clauses of a node over what a cover keeps of it.
use Rattle.std.specs.Prelude.{ℕ, Bool, true, ◌&&◌, List, [], ◌∷◌, length, map, min, Option, Some, None, slice_get, if◌then◌else◌}
use Rattle.ring_names.specs.declared.ids.NodeId.{NodeId}
use Rattle.ring_names.specs.declared.refusal.Refusal.TheVariants.{NotJoined, CoverMissing, ChainBroken, TooManyChains}
use Rattle.ring_table.specs.declared.allowance.Side.{Side}
use Rattle.ring_table.specs.declared.allowance.Side.TheVariants.{Both}
use Rattle.ring_table.specs.Value.{RingValue, is_side}
use Rattle.plan_text.specs.declared.step.Planned.{Planned}
use Rattle.plan_cert.specs.declared.cert.Chain.{Chain}
use Rattle.plan_stage.specs.Clauses.{Guard}
use Rattle.plan_stage.specs.Partition.{Test, has_joined}
use Rattle.plan_cover.specs.Clauses.{is_linked, in_some, has_side, is_few}
use Rattle.plan_cover.specs.Looking.Numbers.{sides_kept}
use Rattle.plan_cover.specs.declared.by_place.ByPlace.{ByPlace}

-- where step n retires the node, the node is on the ring before it
abbrev pub retirement_guards : RingValue → List Planned → Test → NodeId → Option ℕ → List Guard
retirement_guards ring plan O x o = elim o [ Some n ↦ (has_joined ring plan O n x, NotJoined n) ∷ [] | None ↦ [] ]

-- the step comes before the first of those behind it
abbrev pub leads_on : Test → ℕ → List ℕ → Bool
leads_on O a rest = elim (slice_get rest 0) [ Some b ↦ O a b | None ↦ true ]

-- the steps of the chain of that number
abbrev pub steps_at : List Chain → ℕ → List ℕ
steps_at chains k = elim (slice_get chains k) [ Some c ↦ c.steps | None ↦ [] ]

-- the side of the chain of that number
abbrev pub side_at : List Chain → ℕ → Side
side_at chains k = elim (slice_get chains k) [ Some c ↦ c.side | None ↦ Both ]

-- the steps of these chains, if they are on the side
abbrev pub chains_at : List Chain → Side → List ℕ → List (List ℕ)
chains_at chains side [] = []
chains_at chains side (k ∷ ks) =
    if is_side side (side_at chains k) then steps_at chains k ∷ chains_at chains side ks else chains_at chains side ks

-- the chain of that number is of a side that the node has, and its steps are linked and marked on that side
abbrev pub chain_guard : RingValue → NodeId → (Side → ℕ → Bool) → Test → List Chain → ℕ → Guard
chain_guard ring x marked O chains k = (
  has_side ring x (side_at chains k) && is_linked (marked (side_at chains k)) O (steps_at chains k),
  ChainBroken (min k 4294967295),
)

-- step n is in one of the chains
abbrev pub copy_guard : List (List ℕ) → NodeId → ℕ → Guard
copy_guard chains x n = (in_some n chains, CoverMissing x.0 n)

-- the node's copies on that side are in its chains on that side
abbrev pub side_guards : ByPlace ℕ → List Chain → List ℕ → NodeId → Side → List Guard
side_guards copies chains numbers x side = map (copy_guard (chains_at chains side numbers) x) (sides_kept copies x side)

-- there are not too many chains of that side
abbrev pub count_guards : RingValue → List Chain → List ℕ → NodeId → Side → List Guard
count_guards ring chains numbers x side = (is_few ring x side (length (chains_at chains side numbers)), TooManyChains x.0) ∷ []
