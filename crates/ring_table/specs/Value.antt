-- What a ring is, without how it is kept.
use Rattle.std.specs.Prelude.{ℕ, Bool, true, false, ◌==◌, List, Option, Some, None, map, slice_get, option_and_then, if◌then◌else◌}
use Rattle.ring_names.specs.declared.ids.NodeId.{NodeId}
use Rattle.ring_names.specs.declared.ids.Slot.{Slot}
use Rattle.ring_table.specs.declared.allowance.Allowance.{Allowance}
use Rattle.ring_table.specs.declared.allowance.Allowance.TheVariants.{Joint, Split}
use Rattle.ring_table.specs.declared.allowance.Side.{Side}
use Rattle.ring_table.specs.declared.allowance.Side.TheVariants.{Both, Take, Give}
use Rattle.ring_table.specs.declared.node.Node.{Node}

-- a ring
pub record RingValue : Type 0 where
  -- of its text
  pub format : ℕ
  -- partitions, slots of each, answers to a read, takers of a write, stores that may be lost
  pub q : ℕ
  pub n : ℕ
  pub r : ℕ
  pub w : ℕ
  pub loss : ℕ
  -- by number
  pub nodes : List Node
  -- by partition, and then by slot
  pub owners : List (List NodeId)

-- the names of the nodes, by number
abbrev pub names_of : RingValue → List (List ℕ)
names_of v = map (λ x. x.name) v.nodes

-- whether the node is a member before the first step
abbrev pub is_member : List Node → NodeId → Bool
is_member nodes x = elim (slice_get nodes x.0) [ Some node ↦ node.is_member | None ↦ false ]

-- whether two sides are one
abbrev pub is_side : Side → Side → Bool
is_side Both Both = true
is_side Both Take = false
is_side Both Give = false
is_side Take Both = false
is_side Take Take = true
is_side Take Give = false
is_side Give Both = false
is_side Give Take = false
is_side Give Give = true

-- how many transfers of that side may be open at once, if the allowance counts the side
abbrev pub most_of : Side → Allowance → Option ℕ
most_of Both (Joint most) = Some most
most_of Both (Split take give) = None
most_of Take (Joint most) = None
most_of Take (Split take give) = Some take
most_of Give (Joint most) = None
most_of Give (Split take give) = Some give

-- the same of a node, if it is declared
abbrev pub allowance_of : RingValue → ℕ → Side → Option ℕ
allowance_of ring x side = elim (slice_get ring.nodes x) [ Some node ↦ most_of side node.allowance | None ↦ None ]

-- a ring of format 1 as one of format 2, any other as it is
abbrev pub migrated : RingValue → RingValue
migrated v = if v.format == 1 then record v { format = 2 } else v

-- the owners of a partition's slots
abbrev pub row_of : RingValue → ℕ → Option (List NodeId)
row_of v p = slice_get v.owners p

-- the owner of a slot at the start
abbrev pub owner_of : RingValue → Slot → Option NodeId
owner_of v s = option_and_then (λ row. slice_get row s.index) (row_of v s.partition)
