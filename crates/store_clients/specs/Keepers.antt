-- What nodes keep of one key for a slot.
use Rattle.std.specs.Prelude.{◌≡◌, ◌⊎◌, ℕ, ◌<◌, Bool, true, false, List, [], Option, Some, None}
use Rattle.ring_names.specs.declared.refusal.Refusal.{Refusal}
use Rattle.ring_names.specs.declared.refusal.Refusal.TheVariants.{NodeDown}
use Rattle.ring_clock.specs.declared.entry.Entry.{Entry}
use Rattle.ring_versions.specs.declared.version.Version.{Version}
use Rattle.ring_clock.specs.Clock.{IsAtMost}
use Rattle.ring_versions.specs.Raised.{RaisesTo, IsClockIn}
use Rattle.ring_versions.specs.Versions.{IsIn, Covers, IsApart}

-- each of the nodes below x that has versions is up
abbrev pub UpBelow : (ℕ → Bool) → (ℕ → List Version) → ℕ → Type 0
UpBelow up held x = (y : ℕ) → y < x → (held y ≡ []) ⊎ (up y ≡ true)

-- each node that has versions is up, or this is the refusal of the first that is down
abbrev pub IsFirstDown : (ℕ → Bool) → (ℕ → List Version) → Option Refusal → Type 0
IsFirstDown up held None = (y : ℕ) → (held y ≡ []) ⊎ (up y ≡ true)
IsFirstDown up held (Some refusal) = (x : ℕ) × (refusal ≡ NodeDown x) × (up x ≡ false) × (held x ≡ [] → ⊥) × UpBelow up held x

-- all is drawn from these versions and the others'. It covers what these cover and what the versions of nodes
-- that pass cover, and has no ancestors
pub record MergesOthers (these : List Version) (among : ℕ → Bool) (others : ℕ → List Version) (all : List Version) : Type 0 where
  pub drawn : (v : Version) → IsIn v all → IsIn v these ⊎ ((x : ℕ) × IsIn v (others x))
  pub mine : (k : List Entry) → Covers these k → Covers all k
  pub theirs : (x : ℕ) (k : List Entry) → among x ≡ true → Covers (others x) k → Covers all k
  pub apart : IsApart all

-- ---- what joins of clocks tell

-- the version is one of these, or one that others have
abbrev pub IsAmong : List Version → (ℕ → List Version) → Version → Type 0
IsAmong these others v = IsIn v these ⊎ ((x : ℕ) × IsIn v (others x))

-- for these versions and those of others: a clock that is at most the join of some clocks is at most one of
-- them
abbrev pub JoinsTell : List Version → (ℕ → List Version) → Type 0
JoinsTell these others = (v : Version) (some : List Version) (join : List Entry) → IsAmong these others v → ((x : Version) → IsIn x some → IsAmong these others x)
    → RaisesTo [] (IsClockIn some) join → IsAtMost v.clock join → (Covers some v.clock → ⊥) → ⊥

-- the clocks of these versions join to at most what the clocks of those join to
abbrev pub JoinIsAtMost : List Version → List Version → Type 0
JoinIsAtMost these those = (c : List Entry) × (d : List Entry) × RaisesTo [] (IsClockIn these) c × RaisesTo [] (IsClockIn those) d × IsAtMost c d
