-- What it means that reading takes just the spellings of the values that are allowed.
use Rattle.std.specs.Prelude.{◌≡◌, ◌<◌, ℕ, Bool, false, List, [], ◌∷◌, ◌++◌, Result, Ok}
use Rattle.std.specs.List.{AllByRecursion}
use Rattle.ring_names.specs.declared.refusal.Refusal.{Refusal}
use Rattle.texts.specs.Judging.{Item}
use Rattle.texts.specs.Left.{Left, begins_so}

-- the item takes the spelling of an allowed value from the front of a line's fields, and nothing else
pub record IsItem {A : Type 0} (item : Item A) (spell : A → List (List ℕ)) (P : A → Type 0) : Type 0 where
  pub takes : (fields rest : List (List ℕ)) (v : A) → item fields ≡ (Ok v, rest) → (fields ≡ spell v ++ rest) × P v
  pub gives : (v : A) (rest : List (List ℕ)) → P v → item (spell v ++ rest) ≡ (Ok v, rest)

-- the same where C holds of the fields after it
pub record IsFront {A : Type 0} (C : List (List ℕ) → Type 0) (item : Item A) (spell : A → List (List ℕ)) (P : A → Type 0) : Type 0 where
  pub takes : (fields rest : List (List ℕ)) (v : A) → item fields ≡ (Ok v, rest) → (fields ≡ spell v ++ rest) × P v
  pub gives : (v : A) (rest : List (List ℕ)) → P v → C rest → item (spell v ++ rest) ≡ (Ok v, rest)

-- a line is read only if it is the spelling of an allowed value
pub record IsLine {A : Type 0} (read : List (List ℕ) → Result A Refusal) (spell : A → List (List ℕ)) (P : A → Type 0) : Type 0 where
  pub takes : (fields : List (List ℕ)) (v : A) → read fields ≡ Ok v → (fields ≡ spell v) × P v
  pub gives : (v : A) → P v → read (spell v) ≡ Ok v

-- some line is left: at least the one that is not ended
abbrev pub SomeLeft : Left → Type 0
SomeLeft s = (x : List (List ℕ)) × (xs : List (List (List ℕ))) × (s.lines ≡ x ∷ xs)

-- the lines of an allowed value are taken from the front of a text, and nothing else, if C holds for the next line
pub record IsPart {A : Type 0} (C : List (List ℕ) → Type 0) (read : Left → Result (A × Left) Refusal) (spell : A → List (List (List ℕ))) (P : A → Type 0)
    : Type 0 where
  pub takes : (s t : Left) (v : A) → SomeLeft s → read s ≡ Ok (v, t) → (s.lines ≡ spell v ++ t.lines) × P v × SomeLeft t
  pub gives : (k : ℕ) (v : A) (x : List (List ℕ)) (xs : List (List (List ℕ))) → P v → C x
      → (m : ℕ) × (read (record { line = k; lines = spell v ++ x ∷ xs }) ≡ Ok (v, record { line = m; lines = x ∷ xs }))

-- each is allowed behind those in front of it
abbrev pub EachNext : {A : Type 0} → (List A → A → Type 0) → List A → List A → Type 0
EachNext P seen [] = Unit {0}
EachNext P seen (x ∷ xs) = P seen x × EachNext P (seen ++ x ∷ []) xs

-- the line's first field does not pass the test
abbrev pub BeginsOther : (List ℕ → Bool) → List (List ℕ) → Type 0
BeginsOther test line = begins_so test (line ∷ []) ≡ false

-- any line may follow
abbrev pub Any : List (List ℕ) → Type 0
Any x = Unit {0}

-- any fields may follow
abbrev pub Always : List (List ℕ) → Type 0
Always rest = Unit {0}

-- no field may follow
abbrev pub Last : List (List ℕ) → Type 0
Last rest = rest ≡ []

-- no byte is a space or 0A
abbrev pub IsPlain : List ℕ → Type 0
IsPlain field = AllByRecursion (λ b. 32 < b) field

-- at least one field, all of them plain
abbrev pub IsPlainLine : List (List ℕ) → Type 0
IsPlainLine [] = ⊥
IsPlainLine (f ∷ fs) = IsPlain f × AllByRecursion IsPlain fs
