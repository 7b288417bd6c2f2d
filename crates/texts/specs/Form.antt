-- A text as one value: what is read, how it is spelled and what is allowed, with the proofs that these agree. They hold where W does.
use Rattle.std.specs.Prelude.{ℕ, List, Result}
use Rattle.std.specs.List.{AllByRecursion}
use Rattle.ring_names.specs.declared.refusal.Refusal.{Refusal}
use Rattle.texts.specs.Judging.{Item}
use Rattle.texts.specs.Left.{Left}
use Rattle.texts.specs.Laws.{IsFront, IsLine, IsPart, IsPlain, IsPlainLine}
use Rattle.texts.specs.Late.{At, Judges, Advances}

-- what some fields of line k say, where C holds of those after them
pub record Form (W : Type 0) (C : List (List ℕ) → Type 0) (A : Type 0) : Type 1 where
  pub item : ℕ → Item A
  pub spell : A → List (List ℕ)
  pub allowed : A → Type 0
  pub exact : W → (k : ℕ) → IsFront C (item k) spell allowed
  pub judges : (k : ℕ) → Judges k (item k)
  pub plain : W → (v : A) → allowed v → AllByRecursion IsPlain (spell v)

-- what a line says
pub record LineForm (W : Type 0) (A : Type 0) : Type 1 where
  pub read : ℕ → List (List ℕ) → Result A Refusal
  pub spell : A → List (List ℕ)
  pub allowed : A → Type 0
  pub exact : W → (k : ℕ) → IsLine (read k) spell allowed
  pub at : (k : ℕ) (fields : List (List ℕ)) → At k (read k fields)
  pub plain : W → (v : A) → allowed v → IsPlainLine (spell v)

-- what some lines of a text say, where C holds of the line after them
pub record Section (W : Type 0) (C : List (List ℕ) → Type 0) (A : Type 0) : Type 1 where
  pub read : Left → Result (A × Left) Refusal
  pub spell : A → List (List (List ℕ))
  pub allowed : A → Type 0
  pub exact : W → IsPart C read spell allowed
  pub advances : Advances read
  pub plain : W → (v : A) → allowed v → AllByRecursion IsPlainLine (spell v)
