-- What is read of a list of which one item was changed.
use Rattle.std.proofs.Common.{◌≡◌, inl, inr, ℕ, ◌<◌, Bool, true, false, List, length, refl}
use Rattle.std.specs.Prelude.{Option, Some, None, slice_get, option_map}
use Rattle.std.proofs.lemmas.Bool.Decides.{eqb_tells}
use Rattle.std.proofs.lemmas.Option.{slice_get_within}
use Rattle.ring_names.proofs.InLists.{get_there}
use Rattle.plan_runs.specs.Effects.{changed, with_number, without_number}
use Rattle.plan_runs.proofs.Changed.{read_at, get_changed, get_other}

-- if a test is passed there is an item
pub read_within : {A : Type 0} (read : A → Bool) (xs : List A) (n : ℕ) → read_at read false xs n ≡ true → n < length xs
read_within {A} read xs n e = by (slice_get xs n) refl e
  where
    by : (o : Option A) → slice_get xs n ≡ o → (elim o [ Some x ↦ read x | None ↦ false ]) ≡ true → n < length xs
    by None f h = absurd cc
    by (Some x) f h = slice_get_within xs n x f

-- a test that the changed item passes is passed there too, and elsewhere as before
pub read_with : {A : Type 0} (read : A → Bool) (xs : List A) (n : ℕ) (f : A → A) → n < length xs → ((x : A) → read (f x) ≡ true) → (m : ℕ) → read_at read false (changed xs n f) m ≡ with_number (read_at read false xs) n m
read_with read xs n f l all m = elim (eqb_tells m n) [
  | inl t ↦ (let a = get_there xs n l in rw (t.0, t.1, get_changed xs n f, a.1, read_at) (all a.0))
  | inr t ↦ rw (t.0, get_other xs n m f t.1, read_at) refl
]

-- one that it fails is failed there, and elsewhere as before
pub read_without : {A : Type 0} (read : A → Bool) (xs : List A) (n : ℕ) (f : A → A) → ((x : A) → read (f x) ≡ false) → (m : ℕ) → read_at read false (changed xs n f) m ≡ without_number (read_at read false xs) n m
read_without {A} read xs n f all m = elim (eqb_tells m n) [
  | inl t ↦ rw (t.0, t.1, get_changed xs n f, read_at) (by (slice_get xs n))
  | inr t ↦ rw (t.0, get_other xs n m f t.1, read_at) refl
]
  where
    by : (o : Option A) → (elim (option_map f o) [ Some x ↦ read x | None ↦ false ]) ≡ false
    by None = refl
    by (Some x) = all x
