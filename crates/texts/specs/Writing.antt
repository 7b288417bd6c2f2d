-- What is written.
use Rattle.std.specs.Prelude.{◌≡◌, ℕ, Bool, List, ◌++◌, Option, Some, None, if◌then◌else◌, ⊤, Result, Err, MatchResult}
use Rattle.std.specs.Global.{Vec}
use Rattle.ring_names.specs.declared.refusal.Refusal.{Refusal}
use Rattle.ring_names.specs.declared.refusal.Refusal.TheVariants.{OutOfMemory}

-- the bytes that are written, if memory was never refused
abbrev pub written : Bool → List ℕ → Option (List ℕ)
written is_whole bytes = if is_whole then Some bytes else None

-- memory was refused, or what was written goes on with more
abbrev pub GoesOn : Option (List ℕ) → Option (List ℕ) → List ℕ → Type 0
GoesOn old None more = ⊤
GoesOn None (Some ys) more = ⊥
GoesOn (Some xs) (Some ys) more = ys ≡ xs ++ more

-- the text that was written, or that memory was refused
abbrev pub Ends : Option (List ℕ) → Result (Vec ℕ) Refusal → Type 0
Ends (Some bytes) r = MatchResult r (λ v. v.items ≡ bytes) (λ _. ⊥)
Ends None r = r ≡ Err OutOfMemory
