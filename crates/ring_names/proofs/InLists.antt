-- What lists have, and where.
use Rattle.std.proofs.Common.{◌≡◌, ◌∙◌, ℕ, zero, suc, ◌<◌, Bool, true, false, cond, not, List, [], ◌∷◌, ◌++◌, length, get_or, Some, refl, sym, ap, arith}
use Rattle.std.specs.Prelude.{◌&&◌, ◌||◌, ◌==◌, slice_get}
use Rattle.std.specs.List.{list_any, dedup, dedup_from}
use Rattle.std.proofs.lemmas.Bool.{eqb-true, and_parts, or_parts, or_from, not-true}
use Rattle.std.proofs.lemmas.Option.{slice_get-get_or}
use Rattle.ring_names.specs.Lists.{has, all_different}
use Rattle.ring_names.proofs.Logic.{eqb_turned, not_moved, or_again, or_swapped}

-- ---- at places

pub get_lent : {X : Type 0} (xs : List X) (i : ℕ) (m : X) → i < length xs → m ≡ get_or xs i m → slice_get xs i ≡ Some m
get_lent xs i m l e = slice_get-get_or xs i m l ∙ ap Some (sym e)

pub get_there : {A : Type 0} (xs : List A) (n : ℕ) → n < length xs → (x : A) × (slice_get xs n ≡ Some x)
get_there [] n l = absurd (omega arith)
get_there (x ∷ xs) zero l = (x, refl)
get_there (x ∷ xs) (suc n) l = get_there xs n (omega arith)

pub get_front : {A : Type 0} (xs more : List A) (i : ℕ) → i < length xs → slice_get (xs ++ more) i ≡ slice_get xs i
get_front [] more i h = absurd (omega arith)
get_front (x ∷ xs) more zero h = refl
get_front (x ∷ xs) more (suc i) h = get_front xs more i (omega arith)

pub get_last : {A : Type 0} (xs : List A) (x : A) → slice_get (xs ++ x ∷ []) (length xs) ≡ Some x
get_last [] x = refl
get_last (y ∷ xs) x = get_last xs x

-- ---- what is in a list of numbers

pub has_push : (xs : List ℕ) (x y : ℕ) → has y (xs ++ x ∷ []) ≡ ((y == x) || has y xs)
has_push [] x y = refl
has_push (z ∷ zs) x y = ap (λ (b : Bool). (y == z) || b) (has_push zs x y) ∙ or_swapped (y == z) (y == x) (has y zs)

pub has_any : (x : ℕ) (ks : List ℕ) → has x ks ≡ list_any (λ y. x == y) ks
has_any x [] = refl
has_any x (k ∷ ks) = rw (has_any x ks) refl

-- a number that is told from the last one kept, or is the same
deduped : (b : Bool) (x k y : ℕ) (ys : List ℕ) → (b ≡ true → y ≡ k) → has x (dedup_from (λ (n m : ℕ). n == m) k ys) ≡ has x (k ∷ ys)
    → has x (dedup_from (λ (n m : ℕ). n == m) y ys) ≡ has x (y ∷ ys) → has x (cond b (dedup_from (λ (n m : ℕ). n == m) k ys) (k ∷ dedup_from (λ (n m : ℕ). n == m) y ys)) ≡ has x (k ∷ y ∷ ys)
deduped true x k y ys is here there = rw (is refl) (here ∙ or_again (x == k) (has x ys))
deduped false x k y ys is here there = rw there refl

has_dedup_from : (x k : ℕ) (ys : List ℕ) → has x (dedup_from (λ (n m : ℕ). n == m) k ys) ≡ has x (k ∷ ys)
has_dedup_from x k [] = refl
has_dedup_from x k (y ∷ ys) = deduped (y == k) x k y ys (eqb-true y k) (has_dedup_from x k ys) (has_dedup_from x y ys)

pub has_dedup : (x : ℕ) (ys : List ℕ) → has x (dedup (λ (n m : ℕ). n == m) ys) ≡ has x ys
has_dedup x [] = refl
has_dedup x (y ∷ ys) = has_dedup_from x y ys

-- ---- numbers that are all different

pub different_push : (xs : List ℕ) (x : ℕ) → all_different (xs ++ x ∷ []) ≡ (all_different xs && not (has x xs))
different_push [] x = refl
different_push (z ∷ zs) x = rw (has_push zs x z, different_push zs x, eqb_turned z x) (not_moved (x == z) (has z zs) (all_different zs) (has x zs))

pub different_more : (xs : List ℕ) (x : ℕ) → all_different xs ≡ true → has x xs ≡ false → all_different (xs ++ x ∷ []) ≡ true
different_more xs x e f = rw (different_push xs x, e, f) refl

has_later : (x : ℕ) (xs : List ℕ) (y : ℕ) (ys : List ℕ) → has x (xs ++ y ∷ ys) ≡ false → (x == y) ≡ false
has_later x [] y ys e = (or_parts (x == y) (has x ys) e).0
has_later x (z ∷ xs) y ys e = has_later x xs y ys (or_parts (x == z) (has x (xs ++ y ∷ ys)) e).1

pub different_apart : (xs : List ℕ) (y : ℕ) (ys : List ℕ) → all_different (xs ++ y ∷ ys) ≡ true → has y xs ≡ false
different_apart [] y ys e = refl
different_apart (x ∷ xs) y ys e =
    let p = and_parts (not (has x (xs ++ y ∷ ys))) (all_different (xs ++ y ∷ ys)) e in
    let h = has_later x xs y ys (not-true (has x (xs ++ y ∷ ys)) p.0) in
    or_from (y == x) (has y xs) (eqb_turned y x ∙ h) (different_apart xs y ys p.1)
