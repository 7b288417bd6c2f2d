-- The one text of each script.
use Rattle.std.specs.Prelude.{ℕ, ◌+◌, ◌/◌, ◌%◌, nat_lt, List, [], ◌∷◌, ◌++◌, map, codes, slice_get, Some, None, if◌then◌else◌}
use Rattle.std.specs.Fmt.{decimal}
use Rattle.std.specs.List.{flat_map}
use Rattle.ring_names.specs.declared.ids.WriterId.{WriterId}
use Rattle.texts.specs.Parts.{text_of}
use Rattle.texts.specs.Frames.{header_fields, end_fields}
use Rattle.ring_table.specs.Value.{RingValue, names_of}
use Rattle.ring_table.specs.Spelling.{name_at}
use Rattle.plan_runs.specs.declared.event.Event.{Event}
use Rattle.plan_runs.specs.declared.event.Event.TheVariants as event

-- one of `0-9a-f`
abbrev pub digit_text : ℕ → ℕ
digit_text d = if nat_lt d 10 then 48 + d else 87 + d

-- a byte, as two digits
abbrev pub byte_text : ℕ → List ℕ
byte_text b = digit_text (b / 16) ∷ digit_text (b % 16) ∷ []

-- `x`, and two digits for each byte
abbrev pub value_text : List ℕ → List ℕ
value_text bytes = 120 ∷ flat_map byte_text bytes

-- the name of a writer, by its number
abbrev pub writer_at : List (List ℕ) → WriterId → List ℕ
writer_at names w = elim (slice_get names w.0) [ Some name ↦ name | None ↦ [] ]

-- the gets that a put knows, if there are some
abbrev pub seen_fields : List ℕ → List (List ℕ)
seen_fields [] = []
seen_fields (x ∷ xs) = codes "seen" ∷ decimal x ∷ map decimal xs

-- the line of an event, with these nodes and writers
abbrev pub event_fields : List (List ℕ) → List (List ℕ) → Event → List (List ℕ)
event_fields nodes names (event.Do s) = codes "do" ∷ decimal s ∷ []
event_fields nodes names (event.OpenCopy s) = codes "open" ∷ decimal s ∷ []
event_fields nodes names (event.ChunkCopy s c) = codes "chunk" ∷ decimal s ∷ decimal c ∷ []
event_fields nodes names (event.CloseCopy s) = codes "close" ∷ decimal s ∷ []
event_fields nodes names (event.AbortCopy s) = codes "abort" ∷ decimal s ∷ []
event_fields nodes names (event.StartPut w k v g) = codes "put" ∷ writer_at names w ∷ k ∷ value_text v ∷ seen_fields g
event_fields nodes names (event.Write u i) = codes "write" ∷ decimal u ∷ decimal i ∷ []
event_fields nodes names (event.Hint u i x) = codes "hint" ∷ decimal u ∷ decimal i ∷ name_at nodes x ∷ []
event_fields nodes names (event.Ack u) = codes "ack" ∷ decimal u ∷ []
event_fields nodes names (event.StartGet k) = codes "get" ∷ k ∷ []
event_fields nodes names (event.Read g i) = codes "read" ∷ decimal g ∷ decimal i ∷ []
event_fields nodes names (event.EndGet g) = codes "endget" ∷ decimal g ∷ []
event_fields nodes names (event.Down x) = codes "down" ∷ name_at nodes x ∷ []
event_fields nodes names (event.Up x) = codes "up" ∷ name_at nodes x ∷ []
event_fields nodes names (event.Handoff x s) = codes "handoff" ∷ name_at nodes x ∷ decimal s.partition ∷ decimal s.index ∷ []
event_fields nodes names (event.Lose x) = codes "lose" ∷ name_at nodes x ∷ []

-- the lines of a script
abbrev pub script_lines : RingValue → List (List ℕ) → List Event → List (List (List ℕ))
script_lines ring names events = header_fields (codes "script") (codes "1") ∷ (map (event_fields (names_of ring) names) events ++ end_fields ∷ [])

-- its text
abbrev pub script_text : RingValue → List (List ℕ) → List Event → List ℕ
script_text ring names events = text_of (script_lines ring names events)
