-- The one text of each history.
use Rattle.std.specs.Prelude.{ℕ, List, [], ◌∷◌, ◌++◌, codes}
use Rattle.std.specs.List.{join_with_byte, flat_map}
use Rattle.texts.specs.Parts.{line_text}
use Rattle.texts.specs.Frames.{header_fields, end_fields}
use Rattle.ring_table.specs.Value.{RingValue, names_of}
use Rattle.plan_runs.specs.declared.event.Event.{Event}
use Rattle.plan_runs.specs.declared.event.Entry.{Entry}
use Rattle.plan_runs.specs.Replies.{reply_text}
use Rattle.script_text.specs.Spelling.{event_fields}

-- an event's text, as its line of a script has it, with these nodes and writers
abbrev pub event_words : List (List ℕ) → List (List ℕ) → Event → List ℕ
event_words nodes names e = join_with_byte 32 (event_fields nodes names e)

-- the line of an entry: its event's text, ` = `, its reply's, and the byte 0A
abbrev pub entry_line : List (List ℕ) → List (List ℕ) → Entry → List ℕ
entry_line nodes names x = event_words nodes names x.event ++ codes " = " ++ reply_text x.reply ++ 10 ∷ []

-- a history's text: the lines of its entries between the first line and `end`
abbrev pub history_text : RingValue → List (List ℕ) → List Entry → List ℕ
history_text ring names history =
    line_text (header_fields (codes "history") (codes "1")) ++ flat_map (entry_line (names_of ring) names) history ++ line_text end_fields
