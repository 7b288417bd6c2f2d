-- Who owns the slots behind a plan's last step, and how many slots each node owns.
use Rattle.std.specs.Prelude.{◌≡◌, ℕ, suc, zero, ◌+◌, ◌<◌, ◌==◌, List, [], ◌∷◌, ◌++◌, Option, Some, None, min, length, slice_get, count_by}
use Rattle.ring_names.specs.declared.ids.NodeId.{NodeId}
use Rattle.ring_names.specs.declared.ids.Slot.{Slot}
use Rattle.ring_table.specs.Value.{RingValue}
use Rattle.plan_text.specs.declared.step.Planned.{Planned}
use Rattle.plan_cover.specs.declared.present.Serving.{Serving}
use Rattle.plan_cover.specs.declared.present.Present.{Present}
use Rattle.plan_cover.specs.Looking.Serving.{serving_at}
use Rattle.plan_moves.specs.Moves.{served_before}

-- the owners of a partition's first slots, where the slots are served so
unfoldable pub row_by : (Slot → Serving) → ℕ → ℕ → List NodeId
row_by serve p zero = []
row_by serve p (suc i) = row_by serve p i ++ (serve (record { partition = p; index = i })).owner ∷ []

-- those of the first partitions, each of n slots
unfoldable pub rows_by : (Slot → Serving) → ℕ → ℕ → List (List NodeId)
rows_by serve n zero = []
rows_by serve n (suc p) = rows_by serve n p ++ row_by serve p n ∷ []

-- the owners of all slots behind all steps, by partition
abbrev pub last_owners : RingValue → List Planned → List (List NodeId)
last_owners ring plan = rows_by (served_before ring plan (length plan)) ring.n ring.q

-- this is who serves the slots behind all steps
abbrev pub IsPast : RingValue → List Planned → Present → Type 0
IsPast ring plan present = (slot : Slot) → serving_at ring present slot ≡ served_before ring plan (length plan) slot

-- how many of the slots the node owns
abbrev pub owned_by : ℕ → List (List NodeId) → ℕ
owned_by x [] = 0
owned_by x (row ∷ rows) = count_by (λ y. y.0 == x) row + owned_by x rows

-- two counts are alike as far as 32 bits go
abbrev pub AreAlike : ℕ → ℕ → Type 0
AreAlike c d = min 4294967295 c ≡ min 4294967295 d

-- a count that is kept grows by so many, as far as 32 bits go, and no other comes
abbrev pub CountsMore : ℕ → Option ℕ → Option ℕ → Type 0
CountsMore k None None = Unit {0}
CountsMore k (Some c) (Some d) = AreAlike d (c + k)
CountsMore k None (Some d) = ⊥
CountsMore k (Some c) None = ⊥

-- the counts are those of so many nodes, as far as 32 bits go
pub record AreOwned (nodes : ℕ) (rows : List (List NodeId)) (counts : List ℕ) : Type 0 where
  pub len : length counts ≡ nodes
  pub each : (x : ℕ) → x < nodes → CountsMore (owned_by x rows) (Some 0) (slice_get counts x)
