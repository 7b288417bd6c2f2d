-- The versions that sets share.
use Rattle.std.specs.Prelude.{List, [], ◌∷◌, ◌++◌}
use Rattle.std.specs.Arc.{arc_value}
use Rattle.ring_versions.specs.Chunks.{all_of}
use Rattle.ring_versions.specs.declared.version.Version.{Version}
use Rattle.ring_versions.specs.declared.held.Held.{Held}
use Rattle.ring_versions.specs.declared.held.Held.TheVariants as held
use Rattle.ring_versions.specs.declared.left.Left.{Left}
use Rattle.ring_versions.specs.declared.whole.Shared.{Shared}
use Rattle.ring_versions.specs.declared.whole.Shared.TheVariants.{Nothing, One, Few, Many}

-- those that are shared
abbrev pub shared_versions : Shared → List Version
shared_versions Nothing = []
shared_versions (One a) = arc_value a ∷ []
shared_versions (Few a) = (arc_value a).items
shared_versions (Many a) = arc_value a

-- those that a merge looks at
abbrev pub looked_at : Held → List Version
looked_at (held.Few vs) = vs.now
looked_at (held.Many a) = a.now

-- those of the chunks and parts left
abbrev pub all_left : Left → List Version
all_left a = all_of a.kept.items ++ all_of a.made.items
