-- Reading a history: the entries of a text and the writers known behind it, or its first fault.
use Rattle.std.specs.Prelude.{ℕ, nat_lt, List, [], ◌∷◌, ◌++◌, length, codes, Option, Some, None, Result, Ok, Err, if◌then◌else◌}
use Rattle.std.specs.List.{list_all}
use Rattle.std.specs.Str.{bytes_eq}
use Rattle.ring_names.specs.declared.refusal.Refusal.{Refusal}
use Rattle.ring_names.specs.declared.refusal.Refusal.TheVariants.{BadLine, TooLarge}
use Rattle.texts.specs.Cuts.{front_of, behind_of}
use Rattle.texts.specs.Numbers.{numbers_of, beyond}
use Rattle.texts.specs.Judging.{Item, ◌⊗◌, Line, both_of, need_at, map_ok, map_item, whole}
use Rattle.texts.specs.Left.{Left, ◌>>=◌, next_number, begins_with, first_line, one_line, then_part, map_part, whole_text}
use Rattle.texts.specs.Frames.{header_at, end_line_at}
use Rattle.ring_table.specs.Value.{RingValue}
use Rattle.plan_runs.specs.declared.event.Entry.{Entry}
use Rattle.plan_runs.specs.declared.event.Reply.{Reply}
use Rattle.plan_runs.specs.declared.event.Reply.TheVariants.{Plain, Put, Ticket, Get, Found, Answer}
use Rattle.script_text.specs.Said.{names_after}
use Rattle.script_text.specs.declared.said.SaidEvent.{SaidEvent}
use Rattle.script_text.specs.Reading.{count_at, kind_at}
use Rattle.history_text.specs.Said.{SaidEntry, entry_of}

-- numbers of 32 bits, as they are written
abbrev pub judge_numbers : ℕ → List ℕ → Result (List ℕ) Refusal
judge_numbers k xs = if list_all (λ x. nat_lt x 4294967296) xs then Ok xs else Err (TooLarge k)

-- the numbers in front
abbrev pub numbers_at : ℕ → Item (List ℕ)
numbers_at k fields = (judge_numbers k (numbers_of fields), beyond fields)

-- `<p> <i> <g>`
unfoldable pub ticket_at : ℕ → Item ((ℕ × ℕ) × ℕ)
ticket_at k = count_at k ⊗ count_at k ⊗ count_at k

-- what a reply's fields say
unfoldable pub reply_at : ℕ → Item Reply
reply_at k [] = (Err (BadLine k), [])
reply_at k (word ∷ fields) =
    if bytes_eq word (codes "ok") then (Ok Plain, fields)
    else if bytes_eq word (codes "put") then map_item Put (count_at k) fields
    else if bytes_eq word (codes "ticket") then map_item (λ x. Ticket (record { partition = x.0.0; index = x.0.1 }) x.1) (ticket_at k) fields
    else if bytes_eq word (codes "get") then map_item Get (count_at k) fields
    else if bytes_eq word (codes "found") then map_item Found (numbers_at k) fields
    else if bytes_eq word (codes "reply") then map_item Answer (numbers_at k) fields
    else (Err (BadLine k), fields)

-- the event that the first fields say, if there is room for an entry
abbrev pub event_said : RingValue → List Entry → List (List ℕ) → ℕ → List (List ℕ) → Result SaidEvent Refusal
event_said ring history names k fields = map_ok (λ x. x.1) (whole k (need_at k (nat_lt (length history) 1000000) ⊗ kind_at ring names k) fields)

-- the reply that the fields after the sign say, if the sign is there
abbrev pub reply_said : ℕ → Option (List (List ℕ)) → Result Reply Refusal
reply_said k None = Err (BadLine k)
reply_said k (Some fields) = whole k (reply_at k) fields

-- the same of what is left of a line
abbrev pub reply_line : ℕ → Option Line → Result Reply Refusal
reply_line k None = Err (BadLine k)
reply_line k (Some rest) = whole rest.number (reply_at rest.number) rest.fields

-- the next entry of a history
unfoldable pub said_at : RingValue → List Entry → List (List ℕ) → ℕ → List (List ℕ) → Result SaidEntry Refusal
said_at ring history names k fields = both_of (event_said ring history names k (front_of (codes "=") fields)) (reply_said k (behind_of (codes "=") fields))

-- entries behind those seen, and the writers, up to a line that begins with `end`
abbrev pub entries_from : RingValue → List Entry → List (List ℕ) → ℕ → List (List (List ℕ)) → Result ((List Entry × List (List ℕ)) × Left) Refusal
entries_from ring seen names k [] = Err (BadLine k)
entries_from ring seen names k (line ∷ more) = if begins_with (codes "end") (line ∷ more)
    then Ok ((seen, names), record { line = k; lines = line ∷ more })
    else (first_line k (line ∷ more) >>= λ _. said_at ring seen names k line
    >>= λ x. entries_from ring (seen ++ entry_of names x ∷ []) (names_after names x.0) (next_number k) more)

-- the entries of a history, from the first on
unfoldable pub entries_at : RingValue → List (List ℕ) → Left → Result ((List Entry × List (List ℕ)) × Left) Refusal
entries_at ring names s = entries_from ring [] names s.line s.lines

-- the lines of a history, one part behind the other
unfoldable pub history_at : RingValue → List (List ℕ) → Left → Result ((List Entry × List (List ℕ)) × Left) Refusal
history_at ring names = map_part (λ (x : Unit {0} × ((List Entry × List (List ℕ)) × Unit {0})). x.1.0)
    (then_part (one_line (header_at (codes "history") (codes "1"))) (λ _.
    then_part (entries_at ring names) (λ _.
    one_line end_line_at)))

-- a whole text
abbrev pub history_reading : RingValue → List (List ℕ) → List ℕ → Result (List Entry × List (List ℕ)) Refusal
history_reading ring names text = whole_text (history_at ring names) text
