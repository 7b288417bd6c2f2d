-- What is promised of a ring whose partitions have sizes. A slot has a new owner only if it was a leaver's, or
-- if it has keys and goes to a joining node. That node stores no more than its share in the end.
use Rattle.std.specs.Prelude.{◌≡◌, ℕ, zero, suc, ◌+◌, ◌*◌, ◌==◌, Bool, true, false, ◌&&◌, ◌||◌, nat_lt, nat_le, List, [], ◌∷◌, Some, None, length, slice_get, slice_index, slice_set, replicate, if◌then◌else◌}
use Rattle.ring_names.specs.Lists.{has}
use Rattle.ring_names.specs.declared.ids.NodeId.{NodeId}
use Rattle.ring_table.specs.Value.{RingValue, is_member}
use Rattle.plan_text.specs.Changes.{numbers}
use Rattle.std.specs.List.{list_any}
use Rattle.ring_names.specs.Names.{place}
use Rattle.change_text.specs.declared.layout.Entry.{Entry}
use Rattle.change_text.specs.declared.layout.Fact.{Fact}
use Rattle.change_text.specs.declared.layout.Fact.TheVariants.{Size, Weight}
use Rattle.plan_goal.specs.Rings.{flags}

-- the list with the size of a fact at the place of its partition
abbrev pub with_size : List ℕ → Fact → List ℕ
with_size all (Size p n) = slice_set all p n
with_size all fact = all

-- the sizes, with those that facts have
abbrev pub sizes_by : List ℕ → List Entry → List ℕ
sizes_by all [] = all
sizes_by all (x ∷ xs) = sizes_by (with_size all x.fact) xs

-- whether the fact is a size
abbrev pub is_size : Fact → Bool
is_size (Size p n) = true
is_size fact = false

-- whether a fact is
abbrev pub has_sizes : List Entry → Bool
has_sizes = list_any (λ x. is_size x.fact)

-- the list with the weight of a fact at the place of its node, by the names of nodes
abbrev pub with_weight : List (List ℕ) → List ℕ → Fact → List ℕ
with_weight names all (Weight node parts) = elim (place names node) [ Some x ↦ slice_set all x parts | None ↦ all ]
with_weight names all fact = all

-- the weights, with those that facts have
abbrev pub weights_by : List (List ℕ) → List ℕ → List Entry → List ℕ
weights_by names all [] = all
weights_by names all (x ∷ xs) = weights_by names (with_weight names all x.fact) xs

-- the owners of a partition's slots
abbrev pub row_at : List (List NodeId) → ℕ → List NodeId
row_at rows p = elim (slice_get rows p) [ Some row ↦ row | None ↦ [] ]

-- whether there is a flag at the place, and it is set
abbrev pub is_flagged : List Bool → ℕ → Bool
is_flagged flags x = elim (slice_get flags x) [ Some flag ↦ flag | None ↦ false ]

-- the sum of what a function has for the first numbers
unfoldable pub sum_below : (ℕ → ℕ) → ℕ → ℕ
sum_below f zero = 0
sum_below f (suc x) = sum_below f x + f x

-- the test holds of the first numbers
unfoldable pub holds_below : (ℕ → Bool) → ℕ → Bool
holds_below test zero = true
holds_below test (suc x) = holds_below test x && test x

-- what nodes store, if one of them stores another slot with that size
abbrev pub with_slot : ℕ → List ℕ → NodeId → List ℕ
with_slot size loads x = slice_set loads x.0 (slice_index loads x.0 + size)

-- the same with a slot more of each of these
abbrev pub with_row : ℕ → List ℕ → List NodeId → List ℕ
with_row size loads [] = loads
with_row size loads (x ∷ xs) = with_row size (with_slot size loads x) xs

-- what so many nodes store of the first partitions
unfoldable pub loads_below : List ℕ → List (List NodeId) → ℕ → ℕ → List ℕ
loads_below sizes rows nodes zero = replicate nodes 0
loads_below sizes rows nodes (suc p) = with_row (slice_index sizes p) (loads_below sizes rows nodes p) (row_at rows p)

-- the weight of a node among the members; none has that of another
abbrev pub weight_in : List ℕ → RingValue → ℕ → ℕ
weight_in weights ring x = if is_member ring.nodes (record { 0 = x }) then slice_index weights x else 0

-- all weights of members, and all that is stored
abbrev pub all_weights : List ℕ → RingValue → ℕ
all_weights weights ring = sum_below (weight_in weights ring) (length ring.nodes)

abbrev pub all_stored : List ℕ → RingValue → ℕ
all_stored sizes ring = ring.n * sum_below (slice_index sizes) ring.q

-- the node joins, and stores no more than its share: its weight's part of all that is stored
abbrev pub takes : List NodeId → List ℕ → ℕ → List ℕ → ℕ → ℕ → Bool
takes joins loads stored weights all x = has x (numbers joins) && nat_le (slice_index loads x * all) (stored * slice_index weights x)

-- the same of a node of a ring
abbrev pub is_taker : List NodeId → List ℕ → List ℕ → RingValue → ℕ → Bool
is_taker joins sizes weights ring = takes joins (loads_below sizes ring.owners (length ring.nodes) (length ring.owners)) (all_stored sizes ring) weights (all_weights weights ring)

-- a slot of a partition with that size may go from one owner to the other. Then the same for a partition, and
-- for a ring
abbrev pub may_go : List Bool → List Bool → ℕ → NodeId → NodeId → Bool
may_go leavers takers size old new = (old.0 == new.0) || (is_flagged leavers old.0 || (nat_lt 0 size && is_flagged takers new.0))

abbrev pub may_row : List Bool → List Bool → ℕ → List NodeId → List NodeId → Bool
may_row leavers takers size [] [] = true
may_row leavers takers size [] (y ∷ ys) = false
may_row leavers takers size (x ∷ xs) [] = false
may_row leavers takers size (x ∷ xs) (y ∷ ys) = may_go leavers takers size x y && may_row leavers takers size xs ys

abbrev pub may_rows : List Bool → List Bool → List ℕ → List (List NodeId) → List (List NodeId) → Bool
may_rows leavers takers sizes before after = holds_below (λ p. may_row leavers takers (slice_index sizes p) (row_at before p) (row_at after p)) (length before)

-- each slot of a ring may have its owner in the wanted one, where these nodes join and leave
abbrev pub IsSized : RingValue → List NodeId → List NodeId → List ℕ → List ℕ → RingValue → Type 0
IsSized ring joins leaves sizes weights wanted = may_rows (flags (λ x. has x (numbers leaves)) (length ring.nodes))
    (flags (is_taker joins sizes weights wanted) (length wanted.nodes)) sizes ring.owners wanted.owners ≡ true
