-- What is read of a list in which an item was written.
use Rattle.std.proofs.Common.{◌≡◌, ◌≢◌, ℕ, zero, suc, ◌<◌, List, [], ◌∷◌, slice_set, refl, ap}
use Rattle.std.specs.Prelude.{slice_get, option_map}

-- the item there is the one that was written
pub get_same : {A : Type 0} (xs : List A) (n : ℕ) (y : A) → slice_get (slice_set xs n y) n ≡ option_map (λ x. y) (slice_get xs n)
get_same [] n y = refl
get_same (x ∷ xs) zero y = refl
get_same (x ∷ xs) (suc n) y = get_same xs n y

-- the others stay
pub get_apart : {A : Type 0} (xs : List A) (n m : ℕ) (y : A) → m ≢ n → slice_get (slice_set xs n y) m ≡ slice_get xs m
get_apart [] n m y ne = refl
get_apart (x ∷ xs) zero zero y ne = absurd (ne refl)
get_apart (x ∷ xs) zero (suc m) y ne = refl
get_apart (x ∷ xs) (suc n) zero y ne = refl
get_apart (x ∷ xs) (suc n) (suc m) y ne = get_apart xs n m y (λ e. ne (ap suc e))
