-- Items by number, if one is changed or another one comes, and keys by number.
use Rattle.std.proofs.Common.{◌≡◌, ◌≢◌, ◌⊎◌, inl, inr, ◌∙◌, ℕ, zero, suc, ◌<◌, Bool, true, false, cond, List, [], ◌∷◌, ◌++◌, length, refl, sym, ap, subst, arith}
use Rattle.std.specs.Prelude.{Option, Some, None, slice_get, option_map}
use Rattle.std.specs.Str.{bytes_eq}
use Rattle.std.proofs.lemmas.Bool.Decides.{eqb_tells}
use Rattle.std.proofs.lemmas.Slice.Eq.{bytes_eq-Decides}
use Rattle.ring_names.specs.Names.{place}
use Rattle.ring_names.proofs.Places.{place-push}
use Rattle.ring_names.proofs.Logic.{cond_none}
use Rattle.plan_runs.specs.Effects.{changed}
use Rattle.plan_runs.proofs.Changed.{get_changed, get_other}
use Rattle.store_parts.specs.PutsMeet.{AreNumbered}

mapped : {A : Type 0} (f : A → A) (o : Option A) (y : A) → option_map f o ≡ Some y → (x : A) × (o ≡ Some x) × (f x ≡ y)
mapped f None y e = absurd cc
mapped f (Some x) y e = (x, refl, cc)

-- an item of a list with one changed is what f makes of that one, or is as before
pub changed_at : {A : Type 0} (xs : List A) (n m : ℕ) (f : A → A) (y : A) → slice_get (changed xs n f) m ≡ Some y
    → ((x : A) × (m ≡ n) × (slice_get xs n ≡ Some x) × (f x ≡ y)) ⊎ ((m ≢ n) × (slice_get xs m ≡ Some y))
changed_at xs n m f y e = elim (eqb_tells m n) [
  | inl t ↦ (
      let s = mapped f (slice_get xs n) y (sym (get_changed xs n f) ∙ subst (λ (k : ℕ). slice_get (changed xs n f) k ≡ Some y) t.1 e) in
      inl (s.0, t.1, s.1, s.2))
  | inr t ↦ inr (t.1, sym (get_other xs n m f t.1) ∙ e)
]

-- an item of a list with one more behind is that one, or is as before
pub appended_at : {A : Type 0} (xs : List A) (y : A) (m : ℕ) (z : A) → slice_get (xs ++ y ∷ []) m ≡ Some z
    → ((m ≡ length xs) × (y ≡ z)) ⊎ ((m < length xs) × (slice_get xs m ≡ Some z))
appended_at [] y zero z e = inl (refl, cc)
appended_at [] y (suc m) z e = absurd cc
appended_at (x ∷ xs) y zero z e = inr (omega arith, e)
appended_at (x ∷ xs) y (suc m) z e = elim (appended_at xs y m z e) [
  | inl a ↦ inl ((let b = a.0 in omega arith), a.1)
  | inr a ↦ inr ((let l = a.0 in omega arith), a.1)
]

-- an item that is there stays where more come
pub stays_there : {A : Type 0} (xs ys : List A) (m : ℕ) (z : A) → slice_get xs m ≡ Some z → slice_get (xs ++ ys) m ≡ Some z
stays_there [] ys m z e = absurd cc
stays_there (x ∷ xs) ys zero z e = e
stays_there (x ∷ xs) ys (suc m) z e = stays_there xs ys m z e

-- ---- keys

-- a key that has no place is not among the keys
pub absent : (keys : List (List ℕ)) (k : ℕ) (key : List ℕ) → place keys key ≡ None → slice_get keys k ≡ Some key → ⊥
absent [] k key none e = cc
absent (y ∷ ys) zero key none e =
    let f = (cond_none (bytes_eq key y) (place ys key) none).0 in
    let s : y ≡ key = cc in
    let t : bytes_eq key y ≡ true = (bytes_eq-Decides key y).1 (sym s) in
    cc
absent (y ∷ ys) (suc k) key none e = absent ys k key (cond_none (bytes_eq key y) (place ys key) none).1 e

-- a key's place stays where more keys come
pub place_stays : (keys more : List (List ℕ)) (key : List ℕ) (k : ℕ) → place keys key ≡ Some k → place (keys ++ more) key ≡ Some k
place_stays [] more key k e = absurd cc
place_stays (y ∷ ys) more key k e = by (bytes_eq key y) (place ys key) (λ n f. place_stays ys more key n f) refl e
  where
    by : (b : Bool) (o : Option ℕ) → ((n : ℕ) → place ys key ≡ Some n → place (ys ++ more) key ≡ Some n) → place ys key ≡ o → cond b (Some 0) (option_map (λ n. suc n) o) ≡ Some k → cond b (Some 0) (option_map (λ n. suc n) (place (ys ++ more) key)) ≡ Some k
    by true o stays f e = e
    by false None stays f e = absurd cc
    by false (Some n) stays f e = rw (stays n f) e

-- no keys are all different
pub none_numbered : AreNumbered []
none_numbered k key e = absurd cc

-- and keys that are all different stay so when a new one comes
pub numbered_with_key : (keys : List (List ℕ)) (key : List ℕ) → place keys key ≡ None → AreNumbered keys → AreNumbered (keys ++ key ∷ [])
numbered_with_key keys key none numbered k other e = elim (appended_at keys key k other e) [
  | inl a ↦ subst (λ (z : List ℕ). place (keys ++ key ∷ []) z ≡ Some k) a.1 (place-push keys key none ∙ ap (λ (n : ℕ). Some n) (sym a.0))
  | inr a ↦ place_stays keys (key ∷ []) other k (numbered k other a.1)
]

-- of keys that are all different one number has one key
pub one_number : (keys : List (List ℕ)) (j k : ℕ) (key : List ℕ) → AreNumbered keys → slice_get keys j ≡ Some key → slice_get keys k ≡ Some key → j ≡ k
one_number keys j k key numbered d e = (let a = numbered j key d in let b = numbered k key e in let c : Some j ≡ Some k = sym a ∙ b in cc)
