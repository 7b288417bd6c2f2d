-- The parts of a merge.
use Rattle.std.specs.Prelude.{◌⊎◌, List}
use Rattle.ring_clock.specs.declared.entry.Entry.{Entry}
use Rattle.ring_versions.specs.declared.version.Version.{Version}
use Rattle.ring_versions.specs.Versions.{IsIn, Covers, IsApart}

-- those of the versions that the ones held do not cover
pub record IsFresh (held versions out : List Version) : Type 0 where
  pub drawn : (v : Version) → IsIn v out → IsIn v versions
  pub new : (v : Version) → IsIn v out → Covers held v.clock → ⊥
  pub covers : (k : List Entry) → Covers versions k → Covers held k ⊎ Covers out k
  pub apart : IsApart out

-- the second list has the versions of the first, and they are in conflict where those are
pub record IsReordered (old new : List Version) : Type 0 where
  pub there : (v : Version) → IsIn v old → IsIn v new
  pub back : (v : Version) → IsIn v new → IsIn v old
  pub apart : IsApart old → IsApart new
