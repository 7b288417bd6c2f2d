-- Sets of versions, as lists in no order.
use Rattle.std.specs.Prelude.{◌≡◌, ◌⊎◌, ◌↔◌, List, [], ◌∷◌}
use Rattle.std.specs.List.{AllByRecursion}
use Rattle.ring_clock.specs.declared.entry.Entry.{Entry}
use Rattle.ring_clock.specs.Clock.{IsAtMost}
use Rattle.ring_versions.specs.declared.version.Version.{Version}

-- v is one of them
abbrev pub IsIn : Version → List Version → Type 0
IsIn v [] = ⊥
IsIn v (x ∷ xs) = (x ≡ v) ⊎ IsIn v xs

-- one of them has a clock that is at least c
abbrev pub Covers : List Version → List Entry → Type 0
Covers xs c = (v : Version) × IsIn v xs × IsAtMost c v.clock

-- neither is an ancestor of the other
abbrev pub InConflict : Version → Version → Type 0
InConflict u v = (IsAtMost u.clock v.clock → ⊥) × (IsAtMost v.clock u.clock → ⊥)

-- any two of them are in conflict
abbrev pub IsApart : List Version → Type 0
IsApart [] = Unit {0}
IsApart (v ∷ vs) = AllByRecursion (InConflict v) vs × IsApart vs

-- the clock c is in conflict with each version's
pub record IsBeside (xs : List Version) (c : List Entry) : Type 0 where
  pub not_covered : Covers xs c → ⊥
  pub covers_none : (v : Version) → IsIn v xs → IsAtMost v.clock c → ⊥

-- c is drawn from a and b, covers just the clocks that either covers, and has no ancestors
pub record IsMerge (a b c : List Version) : Type 0 where
  pub drawn : (v : Version) → IsIn v c → IsIn v a ⊎ IsIn v b
  pub covers : (k : List Entry) → Covers c k ↔ (Covers a k ⊎ Covers b k)
  pub apart : IsApart c
