-- Which puts of one key succeed which.
use Rattle.std.specs.Prelude.{◌≡◌, ◌↔◌, ◌⊎◌, ℕ, zero, suc, ◌<◌, true, List, [], ◌∷◌, length}
use Rattle.ring_names.specs.Lists.{has}
use Rattle.ring_clock.specs.declared.entry.Entry.{Entry}
use Rattle.ring_clock.specs.declared.causes.Cause.{Cause}
use Rattle.ring_clock.specs.Clock.{IsAtMost}

-- the writer of put k
abbrev pub writer_of : List Cause → ℕ → ℕ
writer_of [] k = 0
writer_of (c ∷ cs) zero = c.writer.0
writer_of (c ∷ cs) (suc k) = writer_of cs k

-- the puts that put k has seen
abbrev pub seen_by : List Cause → ℕ → List ℕ
seen_by [] k = []
seen_by (c ∷ cs) zero = c.seen.items
seen_by (c ∷ cs) (suc k) = seen_by cs k

-- what a put has seen stands in front of it
abbrev pub IsEarlier : List Cause → Type 0
IsEarlier causes = (k v : ℕ) → has v (seen_by causes k) ≡ true → v < k

-- put k has seen the earlier put v, or v is an earlier put of its writer
abbrev pub IsDirect : List Cause → ℕ → ℕ → Type 0
IsDirect causes k v = (k < length causes) × (v < k) × ((has v (seen_by causes k) ≡ true) ⊎ (writer_of causes v ≡ writer_of causes k))

-- put k succeeds put v: they are one, or a chain of direct successions leads from k to v
pub data Succeeds (causes : List Cause) : ℕ → ℕ → Type 0 where
  itself : (k : ℕ) → Succeeds causes k k
  by : (k j v : ℕ) → IsDirect causes k j → Succeeds causes j v → Succeeds causes k v

-- of two puts the first one's clock is at most the second's exactly if the second succeeds the first
abbrev pub IsSuccession : List Cause → (ℕ → List Entry) → Type 0
IsSuccession causes clock = (v k : ℕ) → v < length causes → k < length causes → IsAtMost (clock v) (clock k) ↔ Succeeds causes k v
