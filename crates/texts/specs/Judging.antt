-- Reading the fields of a line. Every field is judged; of several faults in a line the one of the least number decides.
use Rattle.std.specs.Prelude.{◌≡◌, ◌≢◌, ℕ, Bool, nat_lt, List, [], ◌∷◌, Option, Some, None, Result, Ok, Err, if◌then◌else◌}
use Rattle.std.specs.Str.{bytes_eq}
use Rattle.ring_names.specs.declared.refusal.Refusal.{Refusal}
use Rattle.ring_names.specs.declared.refusal.Refusal.TheVariants.{BadLine, TooLarge, OutOfMemory}
use Rattle.ring_names.specs.Refusals.{number_of}
use Rattle.texts.specs.Number.{decimal_value}

-- both values, or the fault of the lesser number
unfoldable pub both_of : {A B : Type 0} → Result A Refusal → Result B Refusal → Result (A × B) Refusal
both_of (Ok a) (Ok b) = Ok (a, b)
both_of (Ok a) (Err f) = Err f
both_of (Err e) (Ok b) = Err e
both_of (Err e) (Err f) = Err (if nat_lt (number_of f) (number_of e) then f else e)

-- what some fields of a line say, and the fields behind them
abbrev pub Item : Type 0 → Type 0
Item A = List (List ℕ) → Result A Refusal × List (List ℕ)

-- one, and behind it the other
infixl 6 ◌⊗◌
abbrev pub ◌⊗◌ : {A B : Type 0} → Item A → Item B → Item (A × B)
(a ⊗ b) fields = (both_of (a fields).0 (b (a fields).1).0, (b (a fields).1).1)

-- one field, of line k
abbrev pub field_at : {A : Type 0} → ℕ → (List ℕ → Result A Refusal) → Item A
field_at k judge [] = (Err (BadLine k), [])
field_at k judge (field ∷ fields) = (judge field, fields)

-- this very word
abbrev pub word_at : ℕ → List ℕ → Item (Unit {0})
word_at k word = field_at k (λ field. if bytes_eq field word then Ok tt else Err (BadLine k))

-- a number up to a limit
abbrev pub limited : ℕ → ℕ → Option ℕ → Result ℕ Refusal
limited k limit None = Err (BadLine k)
limited k limit (Some n) = if nat_lt limit n then Err (TooLarge k) else Ok n

-- one field that is such a number
abbrev pub number_at : ℕ → ℕ → Item ℕ
number_at k limit = field_at k (λ field. limited k limit (decimal_value field))

-- nothing more
abbrev pub end_at : ℕ → Item (Unit {0})
end_at k [] = (Ok tt, [])
end_at k (field ∷ fields) = (Err (BadLine k), fields)

-- no field, but room for what the line begins
abbrev pub need_at : ℕ → Bool → Item (Unit {0})
need_at k room fields = (if room then Ok tt else Err (TooLarge k), fields)

-- a line: its number, and the fields that are left of it
pub record Line : Type 0 where
  pub number : ℕ
  pub fields : List (List ℕ)

-- what was returned and left of a line is what the item of its number says
abbrev pub Does : {A : Type 0} → (ℕ → Item A) → Line → Result A Refusal → Line → Type 0
Does item old result new = (result ≡ (item old.number old.fields).0) × (new ≡ record { number = old.number; fields = (item old.number old.fields).1 })

-- the value, made into another
abbrev pub map_ok : {A B : Type 0} → (A → B) → Result A Refusal → Result B Refusal
map_ok f (Ok x) = Ok (f x)
map_ok f (Err e) = Err e

-- the value of an item, made into another
abbrev pub map_item : {A B : Type 0} → (A → B) → Item A → Item B
map_item f item fields = (map_ok f (item fields).0, (item fields).1)

-- a whole line: the item, and nothing behind it
abbrev pub whole : {A : Type 0} → ℕ → Item A → List (List ℕ) → Result A Refusal
whole k item fields = map_ok (λ x. x.0) ((item ⊗ end_at k) fields).0

-- the value, unless a test is true: then the refusal of the first such test
abbrev pub unless : {A : Type 0} → List (Bool × Refusal) → A → Result A Refusal
unless [] x = Ok x
unless (t ∷ ts) x = if t.0 then Err t.1 else unless ts x

-- what was returned is what reading gives, unless memory ran out
abbrev pub Gives : {A : Type 0} → Result A Refusal → Result A Refusal → Type 0
Gives (Ok x) read = read ≡ Ok x
Gives (Err e) read = e ≢ OutOfMemory → read ≡ Err e
