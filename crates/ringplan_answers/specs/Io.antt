-- What reading a whole input and writing a whole output do to the bytes that are told.
use Rattle.std.specs.Prelude.{◌≡◌, ◌⊎◌, ℕ, ◌≤◌, ◌<◌, List, ◌++◌, length, Option, Result, Ok, Err, ⊤}
use Rattle.std.specs.Global.{Vec}
use Rattle.std.specs.Io.KnownBytes.{Appends}
use Rattle.ring_names.specs.declared.refusal.Refusal.{Refusal}
use Rattle.ring_names.specs.declared.refusal.Refusal.TheVariants.{TooLarge, OutOfMemory, ReadFailed}
pub use Rattle.plan_cert.specs.Input.{max_input, Tells}

-- what reading an input of bs gives: its bytes, or a refusal: too many bytes, or a failed read, or want of
-- memory
abbrev pub Reads : List ℕ → Result (Vec ℕ) Refusal → Type 0
Reads bs (Ok v) = (v.items ≡ bs) × (length bs ≤ max_input)
Reads bs (Err (TooLarge line)) = (line ≡ 0) × (max_input < length bs)
Reads bs (Err ReadFailed) = ⊤
Reads bs (Err OutOfMemory) = ⊤
Reads bs (Err _) = ⊥

-- known bytes grow by some first part of bs
abbrev pub AppendsPart : Option (List ℕ) → Option (List ℕ) → List ℕ → Type 0
AppendsPart old new bs = (front : List ℕ) × (rest : List ℕ) × (bs ≡ front ++ rest) × Appends old new front

-- the text was written and the status is the one that goes with it, or some first part was and the status is 3
abbrev pub Prints : Option (List ℕ) → Option (List ℕ) → List ℕ → ℕ → ℕ → Type 0
Prints old new text status result = (Appends old new text × (result ≡ status)) ⊎ (AppendsPart old new text × (result ≡ 3))
