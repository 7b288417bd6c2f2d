-- When memory may run out: after lines in which reading finds no fault.
use Rattle.std.specs.Prelude.{◌≡◌, ℕ, ◌≤◌, List, [], ◌∷◌, Result, Ok, Err, IfErr}
use Rattle.ring_names.specs.declared.refusal.Refusal.{Refusal}
use Rattle.ring_names.specs.declared.refusal.Refusal.TheVariants.{OutOfMemory}
use Rattle.ring_names.specs.Refusals.{values_of}
use Rattle.texts.specs.Judging.{Item}
use Rattle.texts.specs.Left.{Left, lines_on}

-- a fault of line k
abbrev pub IsAt : ℕ → Refusal → Type 0
IsAt k e = values_of e ≡ k ∷ []

-- reading finds no fault in front of line k
abbrev pub NoFaultBefore : {A : Type 0} → ℕ → Result A Refusal → Type 0
NoFaultBefore k (Ok x) = Unit {0}
NoFaultBefore k (Err e) = (m : ℕ) × (k ≤ m) × IsAt m e

-- the same of a part of a text, which moreover ends at line k or behind it
abbrev pub ReadsTo : {A : Type 0} → ℕ → Result (A × Left) Refusal → Type 0
ReadsTo k (Ok x) = k ≤ x.1.line
ReadsTo k (Err e) = (m : ℕ) × (k ≤ m) × IsAt m e

-- if memory ran out, n lines or more were taken, and reading finds no fault in those taken
abbrev pub Late : {A B : Type 0} → ℕ → Result A Refusal → Left → Left → Result (B × Left) Refusal → Type 0
Late n (Ok x) old new read = Unit {0}
Late n (Err e) old new read = e ≡ OutOfMemory → (lines_on n old.line ≤ new.line) × ReadsTo new.line read

-- the fault of line k, if there is one
abbrev pub At : {A : Type 0} → ℕ → Result A Refusal → Type 0
At k r = IfErr r (λ e. IsAt k e)

-- the faults of an item are of line k
pub record Judges {A : Type 0} (k : ℕ) (item : Item A) : Type 0 where
  pub at : (fields : List (List ℕ)) → At k (item fields).0

-- reading does not go back, and finds no fault in front of where it begins
pub record Advances {A : Type 0} (read : Left → Result (A × Left) Refusal) : Type 0 where
  pub on : (s : Left) → ReadsTo s.line (read s)
