-- A history of which some lines are read.
use Rattle.std.specs.Prelude.{◌≡◌, ◌⊎◌, ◌==◌, ℕ, ◌+◌, ◌<◌, Bool, true, false, cond, List, [], ◌∷◌, ◌++◌, length, Result, Ok, Err}
use Rattle.std.specs.List.{AllByRecursion}
use Rattle.ring_names.specs.declared.refusal.Refusal.{Refusal}
use Rattle.ring_names.specs.declared.refusal.Refusal.TheVariants.{TooLarge}
use Rattle.texts.specs.Parts.{fields_of, lines_of}
use Rattle.texts.specs.Left.{next_number}
use Rattle.ring_table.specs.Value.{RingValue, names_of}
use Rattle.ring_table.specs.Valid.{IsRing}
use Rattle.plan_runs.specs.declared.event.Entry.{Entry}
use Rattle.plan_runs.specs.declared.event.Event.{Event}
use Rattle.plan_runs.specs.declared.event.Event.TheVariants.{StartPut, StartGet}
use Rattle.script_text.specs.Valid.{AreWriters, IsKnown}
use Rattle.history_text.specs.Said.{SaidEntry}
use Rattle.history_text.specs.Reading.{said_at}
use Rattle.history_text.specs.declared.reader.Reader.{Reader}
use Rattle.history_text.specs.declared.reader.Stage.{Stage}
use Rattle.history_text.specs.declared.reader.Stage.TheVariants.{First, Entries}
use Rattle.history_text.specs.Input.{max_input}
use Rattle.history_text.specs.StreamReading.{Point, IsReadTo, entries_behind, read_from, resume_at, writers_behind}

-- whether a put or a get starts
abbrev pub is_start : Event → Bool
is_start (StartPut writer key value seen) = true
is_start (StartGet key) = true
is_start e = false

-- how many puts and gets entries start
abbrev pub started : List Entry → ℕ
started [] = 0
started (x ∷ xs) = cond {A = ℕ} (is_start x.event) 1 0 + started xs

-- no byte is 0A
abbrev pub IsRun : List ℕ → Type 0
IsRun bytes = AllByRecursion (λ b. (b == 10) ≡ false) bytes

-- the puts and gets of entries that were taken and of those that are kept are counted
pub record Counted (taken : ℕ) (r : Reader) : Type 0 where
  pub same : r.started ≡ taken + started r.entries.items
  pub few : r.started < 4294967295

-- an event was counted if it starts a put or a get
pub record Counts (old new : Reader) (event : Event) : Type 0 where
  pub same : new ≡ record old { started = old.started + cond {A = ℕ} (is_start event) 1 0 }
  pub few : old.started < 4294967295 → new.started < 4294967295

-- nothing is read of a history whose first line has that number
pub record IsFirst (ring : RingValue) (line : ℕ) (r : Reader) : Type 0 where
  pub ring_is : r.ring.now ≡ ring
  pub writers_are : r.writers ≡ []
  pub line_is : r.line ≡ line
  pub stage_is : r.stage ≡ First
  pub none_started : r.started ≡ 0
  pub no_entries : r.entries.items ≡ []

-- an entry names nodes of the ring and writers that are known
abbrev pub IsKnownIn : RingValue → List (List ℕ) → Entry → Type 0
IsKnownIn ring writers x = IsKnown (length (names_of ring)) (length writers) x.event

-- lines that say these entries are read; the first entries were taken, and the others are kept
pub record IsReading (ring : RingValue) (taken : List Entry) (said : List SaidEntry) (r : Reader) : Type 0 where
  pub valid : IsRing ring
  pub ring_is : r.ring.now ≡ ring
  pub writers_are : r.writers ≡ writers_behind [] said
  pub names : AreWriters r.writers
  pub entries_are : entries_behind [] said ≡ taken ++ r.entries.items
  pub known : AllByRecursion (IsKnownIn ring r.writers) r.entries.items
  pub counted : Counted (started taken) r

-- a line in front of a text
abbrev pub line_and : List ℕ → List ℕ → List (List (List ℕ))
line_and line more = fields_of line ∷ lines_of more

-- the lines of a text in two
abbrev pub lines_and : List ℕ → List ℕ → List (List (List ℕ))
lines_and front more = lines_of (front ++ more)

-- after entries that start all puts and gets that may be, an entry starts one more
abbrev pub IsTooMany : List SaidEntry → SaidEntry → Type 0
IsTooMany said x = (started (entries_behind [] said) ≡ 4294967294) × (started (entries_behind [] (said ++ x ∷ [])) ≡ 4294967295)

-- first lines are read, and line k, which comes next, starts the 4,294,967,295th put or get
pub record HasMany (ring : RingValue) (from : Point) (bytes : List ℕ) (k : ℕ) : Type 0 where
  pub before : List ℕ
  pub line : List ℕ
  pub behind : List ℕ
  pub whole : bytes ≡ before ++ (line ++ behind)
  pub said : List SaidEntry
  pub last : SaidEntry
  pub read : IsReadTo ring from before (record { stage = Entries; said = said; line = k })
  pub one_more : IsReadTo ring from (before ++ line) (record { stage = Entries; said = said ++ last ∷ []; line = next_number k })
  pub many : IsTooMany said last

-- first lines are read, and line k, which comes next, is longer than may be
pub record HasLong (ring : RingValue) (from : Point) (bytes : List ℕ) (k : ℕ) : Type 0 where
  pub before : List ℕ
  pub run : List ℕ
  pub behind : List ℕ
  pub whole : bytes ≡ before ++ (run ++ behind)
  pub stage : Stage
  pub said : List SaidEntry
  pub read : IsReadTo ring from before (record { stage = stage; said = said; line = k })
  pub is_run : IsRun run
  pub long : max_input < length run

-- line k is more than can be read
abbrev pub IsTooMuch : RingValue → Point → List ℕ → ℕ → Type 0
IsTooMuch ring from bytes k = HasLong ring from bytes k ⊎ HasMany ring from bytes k

-- reading refuses a text so, or a line is more than can be read
abbrev pub Stops : RingValue → Point → List ℕ → Refusal → Type 0
Stops ring from bytes e = (read_from ring from bytes ≡ Err e) ⊎ ((k : ℕ) × (e ≡ TooLarge k) × IsTooMuch ring from bytes k)

-- the entries that were kept are taken
pub record IsEmptied (old new : Reader) : Type 0 where
  pub ring : new.ring.now ≡ old.ring.now
  pub writers : new.writers ≡ old.writers
  pub line : new.line ≡ old.line
  pub stage : new.stage ≡ old.stage
  pub started : new.started ≡ old.started
  pub none : new.entries.items ≡ []

-- no line was read
pub record IsHeld (old new : Reader) : Type 0 where
  pub stage : new.stage ≡ old.stage
  pub entries : new.entries.items ≡ old.entries.items

-- the line of an entry was read, and the entry is kept
abbrev pub TakesEntry : Reader → Reader → ℕ → List (List ℕ) → Type 0
TakesEntry old new k fields = (ring : RingValue) (taken : List Entry) (said : List SaidEntry) → IsReading ring taken said old
    → (x : SaidEntry) × (said_at ring [] old.writers k fields ≡ Ok x) × IsReading ring taken (said ++ x ∷ []) new

-- the line of an entry was refused: it is not an entry's, or the entry is the last of too many puts and gets
abbrev pub RefusesEntry : Reader → ℕ → List (List ℕ) → Refusal → Type 0
RefusesEntry old k fields e = (ring : RingValue) (taken : List Entry) (said : List SaidEntry) → IsReading ring taken said old
    → (said_at ring [] old.writers k fields ≡ Err e)
    ⊎ ((x : SaidEntry) × (said_at ring [] old.writers k fields ≡ Ok x) × (e ≡ TooLarge k) × IsTooMany said x)

-- the state of a reader after lines that say this
abbrev pub point_of : Reader → List SaidEntry → Point
point_of r said = record { stage = r.stage; said = said; line = r.line }

-- what a reader makes of a text's lines, after lines that say this
abbrev pub read_by : RingValue → Reader → List SaidEntry → List (List (List ℕ)) → Result (List SaidEntry) Refusal
read_by ring r said lines = resume_at ring r.stage said (record { line = r.line; lines = lines })

-- writers were added to those before
abbrev pub HasMoreWriters : Reader → Reader → Type 0
HasMoreWriters old new = (more : List (List ℕ)) × (new.writers ≡ old.writers ++ more)

-- lines were read, from a state to another, and their entries are kept: whatever text follows, reading goes on from there
abbrev pub Takes : Reader → Reader → (List ℕ → List (List (List ℕ))) → Type 0
Takes old new whole = (ring : RingValue) (taken : List Entry) (said : List SaidEntry) → IsReading ring taken said old
    → (next : List SaidEntry) × IsReading ring taken next new × ((more : List ℕ) → read_by ring old said (whole more) ≡ read_from ring (point_of new next) more) × HasMoreWriters old new

-- a line was refused, whatever text follows
abbrev pub RefusesLine : Reader → List ℕ → Refusal → Type 0
RefusesLine old line e = (ring : RingValue) (taken : List Entry) (said : List SaidEntry) → IsReading ring taken said old
    → ((more : List ℕ) → read_by ring old said (line_and line more) ≡ Err e)
    ⊎ ((x : SaidEntry) × (e ≡ TooLarge old.line) × (old.stage ≡ Entries) × IsTooMany said x
    × ((more : List ℕ) → read_by ring old said (line_and line more) ≡ read_from ring (record { stage = Entries; said = said ++ x ∷ []; line = next_number old.line }) more))

-- first lines are read to a point, and their entries are kept; the text after them is refused, whatever follows
pub record StopsAfter (ring : RingValue) (from : Point) (bytes : List ℕ) (taken : List Entry) (new : Reader) (e : Refusal) : Type 0 where
  pub done : List ℕ
  pub rest : List ℕ
  pub whole : bytes ≡ done ++ rest
  pub to : Point
  pub read : IsReadTo ring from done to
  pub stage_is : to.stage ≡ new.stage
  pub entries_are : entries_behind [] to.said ≡ taken ++ new.entries.items
  pub stops : (more : List ℕ) → Stops ring to (rest ++ more) e

-- bytes were refused, after lines that were read
abbrev pub Refuses : Reader → Reader → List ℕ → Refusal → Type 0
Refuses old new bytes e = (ring : RingValue) (taken : List Entry) (said : List SaidEntry) → IsReading ring taken said old
    → StopsAfter ring (point_of old said) bytes taken new e

-- lines were read, and what is left has none that is ended
pub record TakesSome (old new : Reader) (bytes left : List ℕ) : Type 0 where
  pub done : List ℕ
  pub whole : bytes ≡ done ++ left
  pub run : IsRun left
  pub takes : Takes old new (lines_and done)
