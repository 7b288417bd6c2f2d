-- The one text of each change.
use Rattle.std.specs.Prelude.{ℕ, List, [], ◌∷◌, ◌++◌, map, codes}
use Rattle.ring_names.specs.declared.ids.NodeId.{NodeId}
use Rattle.texts.specs.Parts.{text_of}
use Rattle.texts.specs.Frames.{header_fields, end_fields}
use Rattle.ring_table.specs.Value.{RingValue, names_of}
use Rattle.ring_table.specs.Spelling.{name_at}
use Rattle.change_text.specs.declared.change.Change.{Change}

-- the line of a word and a node
abbrev pub node_fields : List ℕ → List (List ℕ) → NodeId → List (List ℕ)
node_fields word names x = word ∷ name_at names x ∷ []

-- the lines of a change
abbrev pub change_lines : RingValue → Change → List (List (List ℕ))
change_lines ring v = header_fields (codes "change") (codes "1")
    ∷ (map (node_fields (codes "join") (names_of ring)) v.joins ++ (map (node_fields (codes "leave") (names_of ring)) v.leaves ++ end_fields ∷ []))

-- its text
abbrev pub change_text : RingValue → Change → List ℕ
change_text ring v = text_of (change_lines ring v)
