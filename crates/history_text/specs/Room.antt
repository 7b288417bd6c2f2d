-- Text that is kept as long as a replay takes it, and counted to its end.
use Rattle.std.specs.Prelude.{◌≡◌, ℕ, ◌≤◌, List, length, min}
use Rattle.history_text.specs.declared.room.PartText.{PartText}
use Rattle.history_text.specs.Input.{max_input}

-- the greatest number that is counted
abbrev pub most : ℕ
most = 18446744073709551615

-- a text and a number of entries are counted, and the text is kept if a replay takes it
pub record Holds (kept : PartText) (text : List ℕ) (count : ℕ) : Type 0 where
  pub bytes : kept.bytes ≡ min (length text) most
  pub entries : kept.entries ≡ min count most
  pub items : kept.bytes ≤ max_input → kept.entries ≤ 1000000 → kept.text.items ≡ text
