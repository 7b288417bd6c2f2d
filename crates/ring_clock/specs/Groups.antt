-- Groups of writers, whose entries stand together.
use Rattle.std.specs.Prelude.{◌≡◌, ◌≢◌, ℕ, ◌<◌, ◌≤◌, ◌/◌, List, [], ◌∷◌, length, max, Option, Some}
use Rattle.ring_clock.specs.declared.entry.Entry.{Entry}
use Rattle.ring_clock.specs.Clock.{counter, IsClock}

-- the group of a writer
abbrev pub group : ℕ → ℕ
group w = w / 64

-- the group of the first entry's writer
abbrev pub group_in : List Entry → ℕ
group_in [] = 0
group_in (e ∷ es) = group e.writer.0

-- a writer of another group has no counter
abbrev pub IsOfGroup : ℕ → List Entry → Type 0
IsOfGroup g es = (w : ℕ) → group w ≢ g → counter es w ≡ 0

-- entries of one group, one at least
abbrev pub IsBlock : List Entry → Type 0
IsBlock es = IsClock es × (0 < length es) × IsOfGroup (group_in es) es

-- a writer of group g has a counter
abbrev pub HasGroup : ℕ → List Entry → Type 0
HasGroup g es = (w : ℕ) × (group w ≡ g) × (0 < counter es w)

-- b is the block of group g: its writers' counters are those in es
pub record IsBlockFor (g : ℕ) (es b : List Entry) : Type 0 where
  pub block : IsBlock b
  pub of : group_in b ≡ g
  pub counters : (w : ℕ) → group w ≡ g → counter b w ≡ counter es w

-- c is a block in the group of block a, with each writer's greater counter in a and b
pub record IsRaisedBlock (a b c : List Entry) : Type 0 where
  pub block : IsBlock c
  pub group : group_in c ≡ group_in a
  pub counters : (w : ℕ) → counter c w ≡ max (counter a w) (counter b w)

-- each writer's counter in c is at most that in d, but for the writers of one group, if one is given
abbrev pub IsAtMostBut : Option ℕ → List Entry → List Entry → Type 0
IsAtMostBut but c d = (w : ℕ) → but ≢ Some (group w) → counter c w ≤ counter d w
