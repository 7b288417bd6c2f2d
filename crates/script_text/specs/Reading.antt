-- Reading a script: the events of a text and the writers known behind it, or its first fault.
use Rattle.std.specs.Prelude.{ℕ, Bool, true, ◌||◌, ◌==◌, not, nat_lt, nat_le, List, [], ◌∷◌, ◌++◌, length, codes, Option, Some, None, option_map, Result, Ok, Err}
use Rattle.std.specs.Prelude.{if◌then◌else◌}
use Rattle.std.specs.List.{list_all}
use Rattle.std.specs.Map.{lookup}
use Rattle.std.specs.Str.{bytes_eq}
use Rattle.ring_names.specs.Names.{place}
use Rattle.ring_names.specs.declared.ids.NodeId.{NodeId}
use Rattle.ring_names.specs.declared.refusal.Refusal.{Refusal}
use Rattle.ring_names.specs.declared.refusal.Refusal.TheVariants.{BadLine, TooLarge}
use Rattle.texts.specs.Name.{is_name}
use Rattle.texts.specs.Numbers.{numbers_of, beyond, ascending}
use Rattle.texts.specs.Judging.{Item, ◌⊗◌, field_at, number_at, need_at, map_ok, map_item, whole, unless}
use Rattle.texts.specs.Left.{Left, ◌>>=◌, next_number, begins_with, first_line, one_line, then_part, map_part, whole_text}
use Rattle.texts.specs.Frames.{header_at, end_line_at}
use Rattle.ring_table.specs.Value.{RingValue}
use Rattle.ring_table.specs.Reading.{declared_at}
use Rattle.plan_runs.specs.Words.{is_key}
use Rattle.plan_runs.specs.declared.event.Event.{Event}
use Rattle.plan_runs.specs.declared.event.Event.TheVariants as event
use Rattle.script_text.specs.Digits.{is_value_text, value_of}
use Rattle.script_text.specs.Said.{event_of, names_after}
use Rattle.script_text.specs.declared.said.SaidWriter.{SaidWriter}
use Rattle.script_text.specs.declared.said.SaidWriter.TheVariants.{Known, New}
use Rattle.script_text.specs.declared.said.SaidPut.{SaidPut}
use Rattle.script_text.specs.declared.said.SaidEvent.{SaidEvent}
use Rattle.script_text.specs.declared.said.SaidEvent.TheVariants as said
use Rattle.script_text.specs.Shapes.{Shape, Number, Pair, Node, Put, Get, Hint, Handoff, words, shape_of}
use Rattle.script_text.specs.declared.speaker.Speaker.{Speaker}
use Rattle.script_text.specs.declared.speaker.Speaker.TheVariants.{Anyone, Client}

-- a number of 32 bits
abbrev pub count_at : ℕ → Item ℕ
count_at k = number_at k 4294967295

-- two of them
unfoldable pub pair_at : ℕ → Item (ℕ × ℕ)
pair_at k = count_at k ⊗ count_at k

-- a new writer, if there is room
abbrev pub new_writer : List (List ℕ) → ℕ → List ℕ → Result SaidWriter Refusal
new_writer names k field = if nat_lt (length names) 1024 then Ok (New field) else Err (TooLarge k)

-- a writer that was seen, or a new one for which there is room
abbrev pub judge_writer : List (List ℕ) → ℕ → List ℕ → Result SaidWriter Refusal
judge_writer names k field = if is_name field
    then elim (place names field) [ Some n ↦ Ok (Known (record { 0 = n })) | None ↦ new_writer names k field ]
    else Err (BadLine k)

-- 1 to 64 bytes of `a-z0-9_.:-`
abbrev pub judge_key : ℕ → List ℕ → Result (List ℕ) Refusal
judge_key k field = if is_key field then Ok field else Err (BadLine k)

-- the bytes that a text spells
abbrev pub judge_value : ℕ → List ℕ → Result (List ℕ) Refusal
judge_value k field = if is_value_text field then Ok (value_of field) else Err (BadLine k)

-- the gets that a put knows
abbrev pub judge_seen : ℕ → List ℕ → Result (List ℕ) Refusal
judge_seen k xs = unless (
    (length xs == 0, BadLine k)
    ∷ (not (ascending xs), BadLine k)
    ∷ (not (nat_le (length xs) 16), TooLarge k)
    ∷ (not (list_all (λ x. nat_lt x 4294967296) xs), TooLarge k)
    ∷ []) xs

-- nothing, or `seen` and the numbers behind it
unfoldable pub seen_at : ℕ → Item (List ℕ)
seen_at k [] = (Ok [], [])
seen_at k (word ∷ fields) =
    if bytes_eq word (codes "seen") then (judge_seen k (numbers_of fields), beyond fields)
    else (Err (BadLine k), fields)

-- `<writer> <key> <value>`, and the gets
unfoldable pub put_at : List (List ℕ) → ℕ → Item SaidPut
put_at names k = map_item (λ x. record { writer = x.0.0.0; key = x.0.0.1; value = x.0.1; seen = x.1 })
    (field_at k (judge_writer names k) ⊗ field_at k (judge_key k) ⊗ field_at k (judge_value k) ⊗ seen_at k)

-- `<put> <i> <node>`
unfoldable pub hint_at : RingValue → ℕ → Item ((ℕ × ℕ) × NodeId)
hint_at ring k = pair_at k ⊗ declared_at ring k

-- `<node> <p> <i>`
unfoldable pub handoff_at : RingValue → ℕ → Item (NodeId × (ℕ × ℕ))
handoff_at ring k = declared_at ring k ⊗ pair_at k

-- what a line says behind its word, which has a shape or is none of an event
abbrev pub shape_at : RingValue → List (List ℕ) → ℕ → Option Shape → Item SaidEvent
shape_at ring names k (Some (Number f)) = map_item (λ n. said.Plain (f n)) (count_at k)
shape_at ring names k (Some (Pair f)) = map_item (λ x. said.Plain (f x.0 x.1)) (pair_at k)
shape_at ring names k (Some (Node f)) = map_item (λ x. said.Plain (f x)) (declared_at ring k)
shape_at ring names k (Some Put) = map_item said.Put (put_at names k)
shape_at ring names k (Some Get) = map_item said.Get (field_at k (judge_key k))
shape_at ring names k (Some Hint) = map_item (λ x. said.Plain (event.Hint x.0.0 x.0.1 x.1)) (hint_at ring k)
shape_at ring names k (Some Handoff) = map_item (λ x. said.Plain (event.Handoff x.0 (record { partition = x.1.0; index = x.1.1 }))) (handoff_at ring k)
shape_at ring names k None = λ fields. (Err (BadLine k), fields)

-- what the event is, behind the writers seen
unfoldable pub kind_at : RingValue → List (List ℕ) → ℕ → Item SaidEvent
kind_at ring names k [] = (Err (BadLine k), [])
kind_at ring names k (word ∷ fields) = shape_at ring names k (option_map shape_of (lookup (bytes_eq word) words)) fields

-- the next event of a script
unfoldable pub said_at : RingValue → List Event → List (List ℕ) → ℕ → List (List ℕ) → Result SaidEvent Refusal
said_at ring events names k fields = map_ok (λ x. x.1) (whole k (need_at k (nat_lt (length events) 1000000) ⊗ kind_at ring names k) fields)

-- whether the speaker may say a line that begins like the first of these
abbrev pub may_say : Speaker → List (List (List ℕ)) → Bool
may_say Anyone lines = true
may_say Client lines = begins_with (codes "put") lines || begins_with (codes "get") lines || begins_with (codes "down") lines || begins_with (codes "up") lines

-- the next event of a script, where its speaker may say the line
abbrev pub heard_at : Bool → RingValue → List Event → List (List ℕ) → ℕ → List (List ℕ) → Result SaidEvent Refusal
heard_at may ring events names k fields = if may then said_at ring events names k fields else Err (BadLine k)

-- events behind those seen, and the writers, up to a line that begins with `end`
abbrev pub events_from : Speaker → RingValue → List Event → List (List ℕ) → ℕ → List (List (List ℕ)) → Result ((List Event × List (List ℕ)) × Left) Refusal
events_from by ring seen names k [] = Err (BadLine k)
events_from by ring seen names k (line ∷ more) = if begins_with (codes "end") (line ∷ more)
    then Ok ((seen, names), record { line = k; lines = line ∷ more })
    else (first_line k (line ∷ more) >>= λ _. heard_at (may_say by (line ∷ more)) ring seen names k line
    >>= λ x. events_from by ring (seen ++ event_of names x ∷ []) (names_after names x) (next_number k) more)

-- the events of a script, from the first on
unfoldable pub events_at : Speaker → RingValue → List (List ℕ) → Left → Result ((List Event × List (List ℕ)) × Left) Refusal
events_at by ring names s = events_from by ring [] names s.line s.lines

-- the lines of a speaker's script, one part behind the other
unfoldable pub section_at : Speaker → RingValue → List (List ℕ) → Left → Result ((List Event × List (List ℕ)) × Left) Refusal
section_at by ring names = map_part (λ (x : Unit {0} × ((List Event × List (List ℕ)) × Unit {0})). x.1.0)
    (then_part (one_line (header_at (codes "script") (codes "1"))) (λ _.
    then_part (events_at by ring names) (λ _.
    one_line end_line_at)))

-- of a script that anyone may say
abbrev pub script_at : RingValue → List (List ℕ) → Left → Result ((List Event × List (List ℕ)) × Left) Refusal
script_at = section_at Anyone

-- of a client's: a line that begins with another word than `put`, `get`, `down` and `up` is none
abbrev pub client_at : RingValue → List (List ℕ) → Left → Result ((List Event × List (List ℕ)) × Left) Refusal
client_at = section_at Client

-- a whole text
abbrev pub script_reading : RingValue → List (List ℕ) → List ℕ → Result (List Event × List (List ℕ)) Refusal
script_reading ring names text = whole_text (script_at ring names) text
