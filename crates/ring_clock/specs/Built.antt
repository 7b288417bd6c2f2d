-- How the clocks of puts are made, each from those of puts before it.
use Rattle.std.specs.Prelude.{◌≡◌, ◌≢◌, ◌⊎◌, ℕ, ◌+◌, ◌<◌, ◌≤◌, ◌==◌, true, List, length, Option, Some, None, nat_eq, if◌then◌else◌}
use Rattle.std.specs.HashMap as map
use Rattle.ring_names.specs.Lists.{has}
use Rattle.ring_clock.specs.declared.entry.Entry.{Entry}
use Rattle.ring_clock.specs.declared.causes.Cause.{Cause}
use Rattle.ring_clock.specs.declared.causes.LastPuts.{LastPuts}
use Rattle.ring_clock.specs.Clock.{counter, IsAtMost}
use Rattle.ring_clock.specs.Causes.{writer_of, IsDirect}

-- c is the least clock above those of these puts: each counter is the greatest of theirs
pub record IsJoinOf (clock : ℕ → List Entry) (In : ℕ → Type 0) (c : List Entry) : Type 0 where
  pub above : (v : ℕ) → In v → IsAtMost (clock v) c
  pub from : (w : ℕ) → (counter c w ≡ 0) ⊎ ((v : ℕ) × In v × (counter (clock v) w ≡ counter c w))

-- c is d with one more for the writer
abbrev pub Bumps : ℕ → List Entry → List Entry → Type 0
Bumps writer d c = (w : ℕ) → counter c w ≡ (if w == writer then counter d w + 1 else counter d w)

-- c is the join of the clocks of these puts, with one more for the writer
abbrev pub IsNext : (ℕ → List Entry) → (ℕ → Type 0) → ℕ → List Entry → Type 0
IsNext clock In writer c = (d : List Entry) × IsJoinOf clock In d × Bumps writer d c

-- the clock of put k joins the clocks of all direct predecessors, with one more for the put's writer
abbrev pub IsClockOf : List Cause → (ℕ → List Entry) → ℕ → Type 0
IsClockOf causes clock k = IsNext clock (IsDirect causes k) (writer_of causes k) (clock k)

-- so is that of each put
abbrev pub AreClocks : List Cause → (ℕ → List Entry) → Type 0
AreClocks causes clock = (k : ℕ) → k < length causes → IsClockOf causes clock k

-- ---- one put behind others

-- the put has seen put v, or v is its writer's last one
abbrev pub IsInput : Cause → Option ℕ → ℕ → Type 0
IsInput cause last v = (has v cause.seen.items ≡ true) ⊎ (last ≡ Some v)

-- of the first n puts it is the last of writer w, if there is one
abbrev pub IsLast : List Cause → ℕ → ℕ → Option ℕ → Type 0
IsLast causes n w None = (v : ℕ) → v < n → writer_of causes v ≢ w
IsLast causes n w (Some u) = (u < n) × (writer_of causes u ≡ w) × ((v : ℕ) → v < n → writer_of causes v ≡ w → v ≤ u)

-- put n has this clock, and each other put its own
abbrev pub with_clock : (ℕ → List Entry) → ℕ → List Entry → ℕ → List Entry
with_clock clock n c v = if v == n then c else clock v

-- the place that is kept for a writer
abbrev pub last_of : LastPuts → ℕ → Option ℕ
last_of a w = map.get nat_eq a.places w
