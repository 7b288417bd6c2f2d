-- Records by number, if one is changed or another one comes.
use Rattle.std.proofs.Common.{◌≡◌, ◌≢◌, ℕ, zero, suc, ◌<◌, List, [], ◌∷◌, ◌++◌, length, refl, ap, arith}
use Rattle.std.specs.Prelude.{Some, None, slice_get, option_map}
use Rattle.plan_runs.specs.Effects.{changed}

pub length_changed : {A : Type 0} (xs : List A) (n : ℕ) (f : A → A) → length (changed xs n f) ≡ length xs
length_changed [] n f = refl
length_changed (x ∷ xs) zero f = refl
length_changed (x ∷ xs) (suc n) f = (let e = length_changed xs n f in omega arith)

pub get_changed : {A : Type 0} (xs : List A) (n : ℕ) (f : A → A) → slice_get (changed xs n f) n ≡ option_map f (slice_get xs n)
get_changed [] n f = refl
get_changed (x ∷ xs) zero f = refl
get_changed (x ∷ xs) (suc n) f = get_changed xs n f

pub get_other : {A : Type 0} (xs : List A) (n m : ℕ) (f : A → A) → m ≢ n → slice_get (changed xs n f) m ≡ slice_get xs m
get_other [] n m f ne = refl
get_other (x ∷ xs) zero zero f ne = absurd (ne refl)
get_other (x ∷ xs) zero (suc m) f ne = refl
get_other (x ∷ xs) (suc n) zero f ne = refl
get_other (x ∷ xs) (suc n) (suc m) f ne = get_other xs n m f (λ e. ne (ap suc e))

-- what is read of a record
abbrev pub read_at : {A B : Type 0} → (A → B) → B → List A → ℕ → B
read_at f d xs v = elim (slice_get xs v) [ Some x ↦ f x | None ↦ d ]

-- a reading that the change leaves is the same
pub part_changed : {A B : Type 0} (read : A → B) (d : B) (xs : List A) (n : ℕ) (f : A → A) → ((x : A) → read (f x) ≡ read x) → (v : ℕ) → read_at read d (changed xs n f) v ≡ read_at read d xs v
part_changed read d [] n f same v = refl
part_changed read d (x ∷ xs) zero f same zero = same x
part_changed read d (x ∷ xs) zero f same (suc v) = refl
part_changed read d (x ∷ xs) (suc n) f same zero = refl
part_changed read d (x ∷ xs) (suc n) f same (suc v) = part_changed read d xs n f same v

-- so is that of a record before those that come
pub part_before : {A B : Type 0} (read : A → B) (d : B) (xs ys : List A) (v : ℕ) → v < length xs → read_at read d (xs ++ ys) v ≡ read_at read d xs v
part_before read d [] ys v l = absurd (omega arith)
part_before read d (x ∷ xs) ys zero l = refl
part_before read d (x ∷ xs) ys (suc v) l = part_before read d xs ys v (omega arith)

-- that of the record that comes is its own
pub part_new : {A B : Type 0} (read : A → B) (d : B) (xs : List A) (y : A) (v : ℕ) → v ≡ length xs → read_at read d (xs ++ y ∷ []) v ≡ read y
part_new read d [] y zero e = refl
part_new read d [] y (suc v) e = absurd (omega arith)
part_new read d (x ∷ xs) y zero e = absurd (omega arith)
part_new read d (x ∷ xs) y (suc v) e = part_new read d xs y v (omega arith)

-- and there is none behind it
pub part_past : {A B : Type 0} (read : A → B) (d : B) (xs : List A) (y : A) (v : ℕ) → length xs < v → read_at read d (xs ++ y ∷ []) v ≡ d
part_past read d [] y zero l = absurd (omega arith)
part_past read d [] y (suc v) l = refl
part_past read d (x ∷ xs) y zero l = absurd (omega arith)
part_past read d (x ∷ xs) y (suc v) l = part_past read d xs y v (omega arith)
