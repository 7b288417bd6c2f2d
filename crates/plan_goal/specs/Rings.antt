-- The ring that a plan leaves.
use Rattle.std.specs.Prelude.{ℕ, suc, zero, Bool, not, ◌&&◌, ◌||◌, List, [], ◌∷◌, ◌++◌, length}
use Rattle.ring_names.specs.declared.ids.NodeId.{NodeId}
use Rattle.ring_names.specs.Lists.{has}
use Rattle.ring_table.specs.Value.{RingValue, is_member}
use Rattle.ring_table.specs.Changed.{changed}
use Rattle.plan_text.specs.declared.step.Planned.{Planned}
use Rattle.plan_text.specs.Steps.{joined, retired}
use Rattle.plan_moves.specs.Owners.{last_owners}

-- whether the node is a member once the plan is done: it was or joined, and did not retire
abbrev pub member_after : RingValue → List Planned → NodeId → Bool
member_after ring plan x = (is_member ring.nodes x || has x.0 (joined plan)) && not (has x.0 (retired plan))

-- what a test answers of the first numbers
unfoldable pub flags : (ℕ → Bool) → ℕ → List Bool
flags test zero = []
flags test (suc x) = flags test x ++ test x ∷ []

-- the same of the first nodes
abbrev pub members_after : RingValue → List Planned → ℕ → List Bool
members_after ring plan = flags (λ x. member_after ring plan (record { 0 = x }))

-- the ring with the owners and the members that the plan leaves
abbrev pub ring_left : RingValue → List Planned → RingValue
ring_left ring plan = changed ring (last_owners ring plan) (members_after ring plan (length ring.nodes))
