-- What is left of a text.
use Rattle.std.specs.Prelude.{◌≡◌, ◌≢◌, ℕ, zero, suc, ◌+◌, nat_lt, Bool, true, false, List, [], ◌∷◌, ◌++◌, Result, Ok, Err, if◌then◌else◌}
use Rattle.std.specs.Str.{bytes_eq}
use Rattle.texts.specs.Parts.{lines_of}
use Rattle.ring_names.specs.declared.refusal.Refusal.{Refusal}
use Rattle.ring_names.specs.declared.refusal.Refusal.TheVariants.{BadLine, OutOfMemory}

-- whether the list is empty
abbrev pub is_nil : List ℕ → Bool
is_nil [] = true
is_nil (x ∷ xs) = false

-- the lines that are left, of which the last is not ended, and the number of the first of them
pub record Left : Type 0 where
  pub line : ℕ
  pub lines : List (List (List ℕ))

-- the number of the line behind line k: lines from 2 ^ 32 - 1 on all have that number
unfoldable pub next_number : ℕ → ℕ
next_number k = if nat_lt k 4294967295 then k + 1 else k

-- the same, n lines on
abbrev pub lines_on : ℕ → ℕ → ℕ
lines_on zero k = k
lines_on (suc n) k = lines_on n (next_number k)

infixl 10 ◌>>=◌
abbrev pub ◌>>=◌ : {A B : Type 0} → Result A Refusal → (A → Result B Refusal) → Result B Refusal
(Ok x) >>= f = f x
(Err e) >>= f = Err e

-- whether the first field that is left passes the test
abbrev pub begins_so : (List ℕ → Bool) → List (List (List ℕ)) → Bool
begins_so test [] = false
begins_so test ([] ∷ lines) = false
begins_so test ((field ∷ fields) ∷ lines) = test field

-- the field is this word
abbrev pub is_word : List ℕ → List ℕ → Bool
is_word word field = bytes_eq field word

-- whether the first field that is left is this word
abbrev pub begins_with : List ℕ → List (List (List ℕ)) → Bool
begins_with word lines = begins_so (is_word word) lines

-- a line that must come: it is there only if it is ended, so if another follows
abbrev pub first_line : ℕ → List (List (List ℕ)) → Result (List (List ℕ) × Left) Refusal
first_line k [] = Err (BadLine k)
first_line k (line ∷ []) = Err (BadLine k)
first_line k (line ∷ next ∷ more) = Ok (line, record { line = next_number k; lines = next ∷ more })

-- the next line, and what is left behind it
abbrev pub next_line : Left → Result (List (List ℕ) × Left) Refusal
next_line s = first_line s.line s.lines

-- nothing is left: a last line with nothing in it, not ended
abbrev pub is_nothing : List (List (List ℕ)) → Bool
is_nothing [] = true
is_nothing ([] ∷ lines) = false
is_nothing ((field ∷ []) ∷ []) = is_nil field
is_nothing ((field ∷ []) ∷ line ∷ lines) = false
is_nothing ((field ∷ next ∷ fields) ∷ lines) = false

-- whether nothing is left
abbrev pub is_over : Left → Bool
is_over s = is_nothing s.lines

-- a line that must come, read by `read`, which gets its number
abbrev pub one_line : {A : Type 0} → (ℕ → List (List ℕ) → Result A Refusal) → Left → Result (A × Left) Refusal
one_line read s = next_line s >>= λ x. read s.line x.0 >>= λ v. Ok (v, x.1)

-- the text is over
abbrev pub over_at : Left → Result (Unit {0}) Refusal
over_at s = if is_over s then Ok tt else Err (BadLine s.line)

-- what was returned and what is left are what reading gives, unless memory ran out
abbrev pub Reads : {A : Type 0} → Result A Refusal → Left → Result (A × Left) Refusal → Type 0
Reads (Ok x) new read = read ≡ Ok (x, new)
Reads (Err e) new read = e ≢ OutOfMemory → read ≡ Err e

-- the same, of what takes no memory
abbrev pub Answers : {A : Type 0} → Result A Refusal → Left → Result (A × Left) Refusal → Type 0
Answers (Ok x) new read = read ≡ Ok (x, new)
Answers (Err e) new read = read ≡ Err e

-- one part of a text, and then another part, which may depend on the first
abbrev pub then_part : {A B : Type 0} → (Left → Result (A × Left) Refusal) → (A → Left → Result (B × Left) Refusal) → Left → Result ((A × B) × Left) Refusal
then_part read again s = do
  x ← read s
  y ← again x.0 x.1
  Ok ((x.0, y.0), y.1)

-- lines as long as their first fields pass a test, each read behind those seen
abbrev pub many_from : {A : Type 0} → (List ℕ → Bool) → (List A → ℕ → List (List ℕ) → Result A Refusal)
    → List A → ℕ → List (List (List ℕ)) → Result (List A × Left) Refusal
many_from test read seen k [] = Ok (seen, record { line = k; lines = [] })
many_from test read seen k (line ∷ more) = if begins_so test (line ∷ more)
    then (first_line k (line ∷ more) >>= λ _. read seen k line >>= λ x. many_from test read (seen ++ x ∷ []) (next_number k) more)
    else Ok (seen, record { line = k; lines = line ∷ more })

-- the value, made into another
abbrev pub map_part : {A B : Type 0} → (A → B) → (Left → Result (A × Left) Refusal) → Left → Result (B × Left) Refusal
map_part f read s = do
  x ← read s
  Ok (f x.0, x.1)

-- a whole text
abbrev pub whole_text : {A : Type 0} → (Left → Result (A × Left) Refusal) → List ℕ → Result A Refusal
whole_text read text = read (record { line = 1; lines = lines_of text }) >>= λ x. over_at x.1 >>= λ _. Ok x.0
