-- What a play of a script prints: each event's answer, one event behind the other, and the owners that there are behind the last.
use Rattle.std.specs.Prelude.{ℕ, ◌+◌, List, [], ◌∷◌, ◌++◌, codes, Result, Ok, Err}
use Rattle.std.specs.Fmt.{decimal}
use Rattle.ring_names.specs.declared.refusal.Refusal.{Refusal}
use Rattle.ring_names.specs.Refusals.{line_of}
use Rattle.ring_names.specs.declared.ids.NodeId.{NodeId}
use Rattle.texts.specs.Parts.{text_of}
use Rattle.texts.specs.Frames.{end_fields}
use Rattle.ring_table.specs.Value.{RingValue, names_of}
use Rattle.ring_table.specs.Spelling.{rows_lines}
use Rattle.plan_text.specs.declared.step.Planned.{Planned}
use Rattle.plan_runs.specs.declared.event.Event.{Event}
use Rattle.plan_runs.specs.declared.event.Reply.{Reply}
use Rattle.plan_runs.specs.Answers.{answer}
use Rattle.plan_runs.specs.Replies.{reply_text}
use Rattle.plan_runs.specs.World.{World, opening_world}
use Rattle.ring_core.specs.Tables.{owners_now}

-- the world after an event: the same if it is refused
abbrev pub behind : World → Result (World × Reply) Refusal → World
behind w (Ok x) = x.0
behind w (Err e) = w

-- what is said of an event: its reply, or the line of its refusal
abbrev pub said : Result (World × Reply) Refusal → List ℕ
said (Ok x) = reply_text x.1 ++ 10 ∷ []
said (Err e) = line_of e

-- the line of the event at place k
abbrev pub event_line : ℕ → Result (World × Reply) Refusal → List ℕ
event_line k answered = decimal k ++ 32 ∷ said answered

-- the world behind the events
abbrev pub world_after : RingValue → List Planned → World → List Event → World
world_after ring plan w [] = w
world_after ring plan w (e ∷ es) = world_after ring plan (behind w (answer ring plan w e)) es

-- a line for each event, the first one at place k
abbrev pub event_lines : RingValue → List Planned → World → ℕ → List Event → List ℕ
event_lines ring plan w k [] = []
event_lines ring plan w k (e ∷ es) = event_line k (answer ring plan w e) ++ event_lines ring plan (behind w (answer ring plan w e)) (k + 1) es

-- the lines of these owners, and `end`
abbrev pub table_text : RingValue → List (List NodeId) → List ℕ
table_text ring rows = text_of (rows_lines (names_of ring) 0 rows ++ end_fields ∷ [])

-- those of the owners in a world
abbrev pub owners_text : RingValue → List Planned → World → List ℕ
owners_text ring plan w = table_text ring (owners_now ring plan w)

-- `yes`, the events' lines from the opening world on, and the owners behind them
unfoldable pub play_text : RingValue → List Planned → List Event → List ℕ
play_text ring plan events = codes "yes" ++ 10 ∷ (event_lines ring plan (opening_world ring) 0 events ++ owners_text ring plan (world_after ring plan (opening_world ring) events))
