-- The two halves of a merge.
use Rattle.std.specs.Prelude.{◌≡◌, ◌≢◌, List, []}
use Rattle.ring_clock.specs.declared.entry.Entry.{Entry}
use Rattle.ring_versions.specs.declared.fresh.Fresh.{Fresh}
use Rattle.ring_versions.specs.declared.version.Version.{Version}
use Rattle.ring_versions.specs.Versions.{Covers, IsMerge}

-- what is made of the versions held and the others: their merge, or no version, exactly if those held cover the
-- others
pub record Brings (held others made : List Version) : Type 0 where
  pub merge : made ≢ [] → IsMerge held others made
  pub same : made ≡ [] → IsMerge held others held
  pub new : made ≢ [] → ((k : List Entry) → Covers others k → Covers held k) → ⊥

-- f has what the others make of the versions held
abbrev pub IsFreshFor : List Version → List Version → Fresh → Type 0
IsFreshFor held others f = Brings held others f.merged

-- f was made for a set of these versions
abbrev pub FitsIn : List Version → Fresh → Type 0
FitsIn held f = (others : List Version) × IsFreshFor held others f

-- f has no versions
abbrev pub BringsNothing : Fresh → Type 0
BringsNothing f = f.merged ≡ []
