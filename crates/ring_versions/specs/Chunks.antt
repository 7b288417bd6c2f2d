-- Versions in chunks, which sets share.
use Rattle.std.specs.Prelude.{◌≤◌, IsTrue, List, [], ◌∷◌, ◌++◌}
use Rattle.std.specs.List.{Contains}
use Rattle.ring_clock.specs.declared.entry.Entry.{Entry}
use Rattle.ring_clock.specs.Clock.{counter, IsAtMost}
use Rattle.ring_clock.specs.Groups.{HasGroup}
use Rattle.ring_versions.specs.declared.group.Group.{Group}
use Rattle.ring_versions.specs.declared.version.Version.{Version}
use Rattle.ring_versions.specs.Versions.{IsIn}

-- the versions of the chunks
abbrev pub all_of : List (List Version) → List Version
all_of [] = []
all_of (c ∷ cs) = c ++ all_of cs

-- each version has at least the counter of one of these entries
abbrev pub AreOwns : List Version → List Entry → Type 0
AreOwns vs owns = (v : Version) → IsIn v vs → (e : Entry) × Contains owns e × (e.counter ≤ counter v.clock e.writer.0)

-- each version's clock has a counter of the group, where that is told
abbrev pub AreOf : Group → List Version → Type 0
AreOf g vs = IsTrue g.is_told → (v : Version) → IsIn v vs → HasGroup g.number v.clock

-- versions of a group, with entries that each one's clock reaches and a join that is at least each one's clock
pub record IsPart (g : Group) (vs : List Version) (owns join : List Entry) : Type 0 where
  pub owned : AreOwns vs owns
  pub above : (v : Version) → IsIn v vs → IsAtMost v.clock join
  pub told : AreOf g vs
