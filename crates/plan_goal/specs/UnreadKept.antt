-- Rings in which the slots of partitions stay that too few live owners can read.
use Rattle.std.specs.Prelude.{ℕ, zero, suc, Bool, ◌&&◌, ◌||◌, List, [], ◌∷◌, ◌++◌, length, if◌then◌else◌}
use Rattle.std.specs.List.{list_any}
use Rattle.ring_names.specs.Lists.{has}
use Rattle.ring_names.specs.declared.ids.NodeId.{NodeId}
use Rattle.ring_table.specs.Value.{RingValue, is_member}
use Rattle.ring_table.specs.Changed.{changed}
use Rattle.plan_text.specs.Changes.{numbers}
use Rattle.plan_goal.specs.Unread.{is_unread}
use Rattle.plan_goal.specs.Rings.{flags}
use Rattle.plan_goal.specs.Sized.{row_at}

-- a partition's owners: the old ones if it is unread, and otherwise the new ones
abbrev pub kept_row : ℕ → List NodeId → List NodeId → List NodeId → List NodeId
kept_row r dead before after = if is_unread r dead before after then before else after

-- those of the first partitions
unfoldable pub kept_rows : ℕ → List NodeId → List (List NodeId) → List (List NodeId) → ℕ → List (List NodeId)
kept_rows r dead before after zero = []
kept_rows r dead before after (suc p) = kept_rows r dead before after p ++ kept_row r dead (row_at before p) (row_at after p) ∷ []

-- whether the node owns a slot
abbrev pub owns : List (List NodeId) → ℕ → Bool
owns rows x = list_any (λ row. has x (numbers row)) rows

-- whether the node is a member in the end: it should be a member, or is a member and owns a slot
abbrev pub is_kept_member : RingValue → RingValue → List (List NodeId) → ℕ → Bool
is_kept_member ring wanted rows x = is_member wanted.nodes (record { 0 = x }) || (is_member ring.nodes (record { 0 = x }) && owns rows x)

-- the wanted ring with such owners and members
abbrev pub with_kept : RingValue → RingValue → List (List NodeId) → RingValue
with_kept ring wanted rows = changed wanted rows (flags (is_kept_member ring wanted rows) (length wanted.nodes))

-- the wanted ring, but for unread partitions, whose slots stay with their owners
abbrev pub without_unread : RingValue → List NodeId → RingValue → RingValue
without_unread ring dead wanted = with_kept ring wanted (kept_rows ring.r dead ring.owners wanted.owners (length wanted.owners))
