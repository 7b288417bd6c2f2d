-- The one text of each ring.
use Rattle.std.specs.Prelude.{ℕ, ◌+◌, Bool, true, false, List, [], ◌∷◌, ◌++◌, map, codes, slice_get, Some, None, nat_lt, if◌then◌else◌}
use Rattle.std.specs.Fmt.{decimal}
use Rattle.ring_names.specs.declared.ids.NodeId.{NodeId}
use Rattle.texts.specs.Parts.{text_of}
use Rattle.texts.specs.Frames.{end_fields}
use Rattle.ring_table.specs.declared.allowance.Allowance.{Allowance}
use Rattle.ring_table.specs.declared.allowance.Allowance.TheVariants.{Joint, Split}
use Rattle.ring_table.specs.declared.node.Node.{Node}
use Rattle.ring_table.specs.Value.{RingValue, names_of}

-- the first line
abbrev pub format_fields : ℕ → List (List ℕ)
format_fields format = codes "ring" ∷ decimal format ∷ []

-- the line of the number of partitions
abbrev pub space_fields : ℕ → List (List ℕ)
space_fields q = codes "space" ∷ decimal q ∷ []

-- how many stores may be lost, where the format says it
abbrev pub loss_fields : ℕ → ℕ → List (List ℕ)
loss_fields format loss = if nat_lt format 3 then [] else decimal loss ∷ []

-- the line of the quorums
abbrev pub quorum_fields : ℕ → ℕ → ℕ → ℕ → ℕ → List (List ℕ)
quorum_fields format n r w loss = codes "quorum" ∷ decimal n ∷ decimal r ∷ decimal w ∷ loss_fields format loss

-- whether a node is a member, as its line says it
abbrev pub membership : Bool → List ℕ
membership true = codes "in"
membership false = codes "out"

-- the numbers of an allowance
abbrev pub allowance_fields : Allowance → List (List ℕ)
allowance_fields (Joint most) = decimal most ∷ []
allowance_fields (Split take give) = decimal take ∷ decimal give ∷ []

-- the line of a node
abbrev pub node_fields : Node → List (List ℕ)
node_fields x = codes "node" ∷ x.name ∷ (allowance_fields x.allowance ++ membership x.is_member ∷ [])

-- the name of a node, by its number
abbrev pub name_at : List (List ℕ) → NodeId → List ℕ
name_at names x = elim (slice_get names x.0) [ Some name ↦ name | None ↦ [] ]

-- the line of a partition's owners
abbrev pub row_fields : List (List ℕ) → ℕ → List NodeId → List (List ℕ)
row_fields names p row = codes "slots" ∷ decimal p ∷ map (name_at names) row

-- the rows from partition p on
abbrev pub rows_lines : List (List ℕ) → ℕ → List (List NodeId) → List (List (List ℕ))
rows_lines names p [] = []
rows_lines names p (row ∷ rows) = row_fields names p row ∷ rows_lines names (p + 1) rows

-- the lines of a ring
abbrev pub ring_lines : RingValue → List (List (List ℕ))
ring_lines v = format_fields v.format ∷ space_fields v.q ∷ quorum_fields v.format v.n v.r v.w v.loss
    ∷ (map node_fields v.nodes ++ (rows_lines (names_of v) 0 v.owners ++ end_fields ∷ []))

-- its text
abbrev pub ring_text : RingValue → List ℕ
ring_text v = text_of (ring_lines v)
