-- How the checker looks at a clause: numbers of entries that pass a test, and what is kept of them for each node.
use Rattle.std.specs.Prelude.{◌≡◌, ℕ, ◌+◌, ◌-◌, ◌<◌, Bool, true, false, ◌==◌, ◌&&◌, List, [], ◌∷◌, ◌++◌, Some, None, length, slice_get, if◌then◌else◌}
use Rattle.ring_table.specs.declared.allowance.NodeSide.{NodeSide}
use Rattle.ring_table.specs.declared.allowance.Side.{Side}
use Rattle.ring_names.specs.Lists.{has}
use Rattle.ring_names.specs.declared.ids.NodeId.{NodeId}
use Rattle.ring_table.specs.Value.{RingValue}
use Rattle.plan_text.specs.declared.step.Planned.{Planned}
use Rattle.plan_cert.specs.declared.cert.Chain.{Chain}
use Rattle.plan_cert.specs.declared.cert.Cert.{Cert}
use Rattle.plan_stage.specs.Occupancy.{is_node}
use Rattle.plan_stage.specs.Stage.{is_among}
use Rattle.plan_stage.specs.Parties.{parties_on}
use Rattle.plan_cover.specs.Clauses.{has_side}
use Rattle.plan_cover.specs.Looking.Places.{listed_at, is_within, place_at}
use Rattle.plan_cover.specs.declared.by_place.ByPlace.{ByPlace}
use Rattle.plan_cover.specs.declared.cover.Cover.{Cover}
use Rattle.plan_cover.specs.declared.marks.Marks.{Marks}

-- the numbers of the entries that pass the test, ascending, where the first has number k
abbrev pub numbers_from : {A : Type 0} → (ℕ → A → Bool) → ℕ → List A → List ℕ
numbers_from test k [] = []
numbers_from test k (x ∷ xs) = if test k x then k ∷ numbers_from test (k + 1) xs else numbers_from test (k + 1) xs

-- whether the node has the side, and step n is a copy in which it takes part on that side
abbrev pub takes_part : RingValue → List Planned → NodeSide → ℕ → Planned → Bool
takes_part ring plan y n p = has_side ring y.node y.side && is_among y.node (parties_on ring plan y.side n)

-- whether the chain is the node's
abbrev pub is_chain_of : NodeId → ℕ → Chain → Bool
is_chain_of x k c = is_node x c.node

-- the copies of that side of the node, ascending
abbrev pub copies_of : RingValue → List Planned → NodeSide → List ℕ
copies_of ring plan y = numbers_from (takes_part ring plan y) 0 plan

-- the node's chains, by number
abbrev pub chain_numbers : List Chain → NodeId → List ℕ
chain_numbers chains x = numbers_from (is_chain_of x) 0 chains

-- the numbers that are kept for the node
abbrev pub kept_of : ByPlace ℕ → NodeId → List ℕ
kept_of a x = listed_at a x.0

-- the numbers that are kept for the side of a node
abbrev pub copies_kept : ByPlace ℕ → NodeSide → List ℕ
copies_kept a y = listed_at a (place_at y.node.0 y.side)

-- those of each side of the node
abbrev pub sides_kept : ByPlace ℕ → NodeId → Side → List ℕ
sides_kept a x side = copies_kept a (record { node = x; side = side })

-- those of the node can be marked
abbrev pub AreWithin : Marks → ByPlace ℕ → NodeId → Type 0
AreWithin marks a x = (side : Side) (n : ℕ) → has n (sides_kept a x side) ≡ true → is_within marks side n ≡ true

-- whether the last number is n
abbrev pub is_last : ℕ → List ℕ → Bool
is_last n xs = elim (slice_get xs (length xs - 1)) [ Some m ↦ m == n | None ↦ false ]

-- with n as the last number, once
abbrev pub with_last : ℕ → List ℕ → List ℕ
with_last n xs = if is_last n xs then xs else xs ++ n ∷ []

-- the same if it is asked for
abbrev pub with_last_if : Bool → ℕ → List ℕ → List ℕ
with_last_if b n xs = if b then with_last n xs else xs

-- the copies on each side of a node, and each node's chains
pub record IsCover (ring : RingValue) (plan : List Planned) (cert : Cert) (a : Cover) : Type 0 where
  pub copies : (y : NodeSide) → copies_kept a.copies y ≡ copies_of ring plan y
  pub chains : (x : NodeId) → x.0 < length ring.nodes → kept_of a.chains x ≡ chain_numbers cert.chains x
