-- What reading an input does to the bytes that are told.
use Rattle.std.specs.Prelude.{◌≡◌, ◌⊎◌, ℕ, ◌≤◌, true, false, List, length, take, Option}
use Rattle.std.specs.Io.KnownBytes.{Consumes, IsAtEnd}
use Rattle.ring_names.specs.declared.refusal.Refusal.{Refusal}
use Rattle.ring_names.specs.declared.refusal.Refusal.TheVariants.{OutOfMemory, ReadFailed}
pub use Rattle.plan_cert.specs.Input.{max_input, Tells}
use Rattle.history_text.specs.declared.input.Head.{Head}

-- memory or reading failed
abbrev pub IsOutside : Refusal → Type 0
IsOutside e = (e ≡ OutOfMemory) ⊎ (e ≡ ReadFailed)

-- n bytes were read to the start of the chunk, none only at the end
pub record Takes (old new : Option (List ℕ)) (chunk : List ℕ) (n : ℕ) : Type 0 where
  pub bytes : Consumes old new (take n chunk)
  pub end : n ≡ 0 → IsAtEnd new
  pub within : n ≤ length chunk

-- these bytes were read, none only at the end
pub record IsNext (old new : Option (List ℕ)) (most : ℕ) (bs : List ℕ) : Type 0 where
  pub bytes : Consumes old new bs
  pub end : length bs ≡ 0 → IsAtEnd new
  pub few : length bs ≤ most

-- these are the first bytes: all, or so many
pub record IsHead (old new : Option (List ℕ)) (most : ℕ) (head : Head) : Type 0 where
  pub bytes : Consumes old new head.bytes.items
  pub few : length head.bytes.items ≤ most
  pub whole : head.is_whole ≡ true → IsAtEnd new
  pub long : head.is_whole ≡ false → length head.bytes.items ≡ most
