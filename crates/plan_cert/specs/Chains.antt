-- Chains whose nodes and sides stand in one list, and their steps in the rows of another.
use Rattle.std.specs.Prelude.{◌≡◌, ℕ, List, [], ◌∷◌, length}
use Rattle.ring_table.specs.declared.allowance.NodeSide.{NodeSide}
use Rattle.plan_cert.specs.declared.cert.Chain.{Chain}
use Rattle.plan_cert.specs.declared.chains.Chains.TheInside.{Inside}

-- a node's chain on one side, with these steps
abbrev pub chain_of : NodeSide → List ℕ → Chain
chain_of x steps = record { node = x.node; side = x.side; steps = steps }

-- whose chain it is
abbrev pub side_of : Chain → NodeSide
side_of c = record { node = c.node; side = c.side }

-- each with the row of its place
abbrev pub chains_in : List NodeSide → List (List ℕ) → List Chain
chains_in [] rows = []
chains_in (x ∷ xs) [] = []
chains_in (x ∷ xs) (row ∷ rows) = chain_of x row ∷ chains_in xs rows

-- the chains that are kept so
abbrev pub chains_of : Inside → List Chain
chains_of a = chains_in a.sides.items a.rows

-- there is a row for each
abbrev pub HaveRows : Inside → Type 0
HaveRows a = length a.rows ≡ length a.sides.items
