-- The part of a history that a command line asks for.
use Rattle.std.specs.Prelude.{◌≡◌, ◌==◌, ℕ, ◌<◌, ◌≤◌, List, length, codes, Option, Some, None}
use Rattle.std.specs.List.{after_first, before_first, position_or_len}
use Rattle.clap.specs.Words.{first_value, one_text}
use Rattle.clap.specs.declared.parser.matches.Found.{Found}
use Rattle.ring_names.specs.declared.choice.Choice.{Choice}
use Rattle.ring_names.specs.declared.choice.Choice.TheVariants.{Share, Range}
use Rattle.ringplan_command.specs.Numbers.{IsNumberFrom, IsNumberNamed, IsNumberTo}
use Rattle.ringplan_command.specs.declared.parts.PartWish.{PartWish}

-- the texts by which a line says which part it asks for
pub record PartTexts : Type 0 where
  pub of : Option (List ℕ)
  pub part : Option (List ℕ)
  pub partitions : Option (List ℕ)
  pub map : Option (List ℕ)

-- those that were found
abbrev pub texts_in : Found → PartTexts
texts_in found = record { of = one_text found (codes "of"); part = one_text found (codes "part"); partitions = first_value found (codes "partitions"); map = one_text found (codes "map") }

-- a share of so many
abbrev pub IsShare : Option (List ℕ) → Option (List ℕ) → ℕ → ℕ → Type 0
IsShare named part_named of part = (a b : List ℕ) × (named ≡ Some a) × (part_named ≡ Some b) × IsNumberTo 4096 a of × IsNumberFrom 0 4095 b part × (part < of)

-- numbers before and after the first `-`, the second not less than the first
abbrev pub IsRange : List ℕ → ℕ → ℕ → Type 0
IsRange text first last = (position_or_len (λ b. b == 45) text < length text) × IsNumberFrom 0 4294967295 (before_first (λ b. b == 45) text) first
    × IsNumberFrom 0 4294967295 (after_first (λ b. b == 45) text) last × (first ≤ last)

-- the partitions that are meant: a share, or a range
abbrev pub MeansChoice : PartTexts → Choice → Type 0
MeansChoice t (Share of part) = IsShare t.of t.part of part × (t.partitions ≡ None)
MeansChoice t (Range first last) = (text : List ℕ) × (t.partitions ≡ Some text) × (t.of ≡ None) × (t.part ≡ None) × IsRange text first last

-- the partitions, and the entry of which the place is wanted, if one is
abbrev pub MeansPart : PartTexts → PartWish → Type 0
MeansPart t wish = MeansChoice t wish.choice × IsNumberNamed 0 999999 t.map wish.entry

-- what was read of the texts
abbrev pub ReadsPart : PartTexts → Option PartWish → Type 0
ReadsPart t (Some wish) = MeansPart t wish
ReadsPart t None = (wish : PartWish) → MeansPart t wish → ⊥
