-- Two merged lists, of entries or of blocks.
use Rattle.std.specs.Prelude.{◌≡◌, ℕ, ◌<◌, List, max}
use Rattle.std.specs.List.{AllByRecursion}
use Rattle.ring_clock.specs.declared.entry.Entry.{Entry}
use Rattle.ring_clock.specs.Blocks.{AreBlocks, entries_of}
use Rattle.ring_clock.specs.Clock.{counter, IsClock}
use Rattle.ring_clock.specs.Groups.{group_in}

-- c and d can stand for a and b: they are in order, have no lesser key, and together the same counters
pub record Stand {A : Type 0} (key : A → ℕ) (Are : List A → Type 0) (count : List A → ℕ → ℕ) (a b c d : List A) : Type 0 where
  pub first : Are c
  pub second : Are d
  pub above : (k : ℕ) → AllByRecursion (λ x. k < key x) a → AllByRecursion (λ x. k < key x) b → AllByRecursion (λ x. k < key x) c × AllByRecursion (λ x. k < key x) d
  pub counters : (w : ℕ) → max (count c w) (count d w) ≡ max (count a w) (count b w)

-- entries, by the writer
abbrev pub EntriesStandFor : List Entry → List Entry → List Entry → List Entry → Type 0
EntriesStandFor a b c d = Stand (λ e. e.writer.0) IsClock counter a b c d

-- blocks, by the group
abbrev pub BlocksStandFor : List (List Entry) → List (List Entry) → List (List Entry) → List (List Entry) → Type 0
BlocksStandFor a b c d = Stand group_in AreBlocks (λ bs w. counter (entries_of bs) w) a b c d
