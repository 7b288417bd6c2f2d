-- Clocks: the list of a clock's entries, in order of the writer.
use Rattle.std.specs.Prelude.{ℕ, ◌<◌, ◌≤◌, ◌==◌, List, [], ◌∷◌, if◌then◌else◌}
use Rattle.std.specs.List.{AllByRecursion}
use Rattle.ring_clock.specs.declared.entry.Entry.{Entry}

-- the counter of writer w, 0 where it has no entry
abbrev pub counter : List Entry → ℕ → ℕ
counter [] w = 0
counter (e ∷ es) w = if e.writer.0 == w then e.counter else counter es w

-- each entry's writer is above w
abbrev pub IsAbove : ℕ → List Entry → Type 0
IsAbove w es = AllByRecursion (λ e. w < e.writer.0) es

-- writers ascend, and each counter is above 0
abbrev pub IsClock : List Entry → Type 0
IsClock [] = Unit {0}
IsClock (e ∷ es) = (0 < e.counter) × IsAbove e.writer.0 es × IsClock es

-- each writer's counter in c is at most that in d
abbrev pub IsAtMost : List Entry → List Entry → Type 0
IsAtMost c d = (w : ℕ) → counter c w ≤ counter d w

-- c is the least clock above a and b
pub record IsJoin (a b c : List Entry) : Type 0 where
  pub first : IsAtMost a c
  pub second : IsAtMost b c
  pub least : (d : List Entry) → IsAtMost a d → IsAtMost b d → IsAtMost c d
