-- Reading a bundle whose history may have any number of entries.
use Rattle.std.specs.Prelude.{◌≡◌, ℕ, Bool, not, List, [], ◌∷◌, ◌++◌, length, drop, codes, Result, Ok}
use Rattle.ring_names.specs.declared.refusal.Refusal.{Refusal}
use Rattle.texts.specs.Parts.{lines_of}
use Rattle.texts.specs.Left.{Left, ◌>>=◌, is_word, many_from, one_line, over_at}
use Rattle.texts.specs.Frames.{header_at, end_line_at}
use Rattle.ring_table.specs.Value.{RingValue}
use Rattle.plan_runs.specs.declared.event.Entry.{Entry}
use Rattle.script_text.specs.Said.{names_after}
use Rattle.history_text.specs.Said.{SaidEntry, entry_of}
use Rattle.history_text.specs.Reading.{said_at}
use Rattle.history_text.specs.declared.reader.Stage.{Stage}
use Rattle.history_text.specs.declared.reader.Stage.TheVariants.{First, Entries, Over}
use Rattle.plan_cert.specs.declared.front.Front.{Front}
use Rattle.plan_cert.specs.Front.{front_at}
use Rattle.history_text.specs.Front.{front_text}

-- the writers known after what lines say
abbrev pub writers_behind : List (List ℕ) → List SaidEntry → List (List ℕ)
writers_behind names [] = names
writers_behind names (x ∷ xs) = writers_behind (names_after names x.0) xs

-- the entries that lines say
abbrev pub entries_behind : List (List ℕ) → List SaidEntry → List Entry
entries_behind names [] = []
entries_behind names (x ∷ xs) = entry_of names x ∷ entries_behind (names_after names x.0) xs

-- the next entry of a history, after any number of them
abbrev pub next_at : RingValue → List SaidEntry → ℕ → List (List ℕ) → Result SaidEntry Refusal
next_at ring seen k fields = said_at ring [] (writers_behind [] seen) k fields

-- whether a line that begins so is an entry's
abbrev pub goes_on : List ℕ → Bool
goes_on field = not (is_word (codes "end") field)

-- what is left of a history after its first lines and entries, to the end of the text
unfoldable pub rest_at : RingValue → List SaidEntry → Left → Result (List SaidEntry) Refusal
rest_at ring seen s = many_from goes_on (next_at ring) seen s.line s.lines >>= λ x. one_line end_line_at x.1 >>= λ y. over_at y.1 >>= λ _. Ok x.0

-- the same, if a line of that stage comes next
abbrev pub resume_at : RingValue → Stage → List SaidEntry → Left → Result (List SaidEntry) Refusal
resume_at ring First seen s = one_line (header_at (codes "history") (codes "1")) s >>= λ x. rest_at ring seen x.1
resume_at ring Entries seen s = rest_at ring seen s
resume_at ring Over seen s = over_at s >>= λ _. Ok seen

-- where reading is: which line comes next, what the lines before it say, and its number
pub record Point : Type 0 where
  pub stage : Stage
  pub said : List SaidEntry
  pub line : ℕ

-- what is read from there to the end of a text
abbrev pub read_from : RingValue → Point → List ℕ → Result (List SaidEntry) Refusal
read_from ring p text = resume_at ring p.stage p.said (record { line = p.line; lines = lines_of text })

-- these bytes are whole lines, and are read without a fault from a point to another: whatever text follows, reading goes on from there
abbrev pub IsReadTo : RingValue → Point → List ℕ → Point → Type 0
IsReadTo ring p done q = (more : List ℕ) → read_from ring p (done ++ more) ≡ read_from ring q more

-- a front, read from the first bytes of a text, and a history to the end of the text
unfoldable pub long_reading : List ℕ → List ℕ → Result (Front × List SaidEntry) Refusal
long_reading head bytes = front_at (record { line = 1; lines = lines_of head })
    >>= λ x. resume_at x.0.ring First [] (record { line = x.1.line; lines = lines_of (drop (length (front_text x.0)) bytes) })
    >>= λ said. Ok (x.0, said)
