-- Facts that were read in part, and what they are about.
use Rattle.std.specs.Prelude.{◌≡◌, ◌≤◌, length, map}
use Rattle.change_text.specs.Facts.{subject_of}
use Rattle.change_text.specs.declared.layout_draft.Draft.TheInside.{Inside}

-- the subjects are those of the entries, which are not too many
pub record HoldsEntries (a : Inside) : Type 0 where
  pub subjects : a.subjects ≡ map (λ x. subject_of x.fact) a.entries.items
  pub few : length a.entries.items ≤ 8192
