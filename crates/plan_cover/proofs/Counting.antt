-- Numbers of entries that pass a test.
use Rattle.std.proofs.Common.{◌≡◌, ℕ, suc, zero, ◌+◌, ◌-◌, ◌<◌, ◌≤◌, Bool, true, false, cond, List, [], ◌∷◌, ◌++◌, length, take, Option, Some, None, refl, ap, ◌∙◌, arith, add-zero}
use Rattle.std.specs.Prelude.{◌&&◌, ◌||◌, ◌==◌, slice_get}
use Rattle.std.proofs.lemmas.Bool.{eq-eqb}
use Rattle.std.proofs.lemmas.Bool.Decides.{nat_tests}
use Rattle.plan_cover.specs.Looking.Numbers.{numbers_from, is_last, with_last, with_last_if}

-- ---- one more entry

one_more : (b c : Bool) (k n m : ℕ) (t u : List ℕ) → u ≡ cond c (t ++ n ∷ []) t → n ≡ m → cond b (k ∷ u) u ≡ cond c (cond b (k ∷ t) t ++ m ∷ []) (cond b (k ∷ t) t)
one_more true true k n m t u e s = rw (e, s) refl
one_more true false k n m t u e s = ap (λ l. k ∷ l) e
one_more false true k n m t u e s = rw (e, s) refl
one_more false false k n m t u e s = e

numbers-push : {A : Type 0} (test : ℕ → A → Bool) (k : ℕ) (xs : List A) (x : A) → numbers_from test k (xs ++ x ∷ []) ≡ cond (test (k + length xs) x) (numbers_from test k xs ++ (k + length xs) ∷ []) (numbers_from test k xs)
numbers-push test k [] x = rw (add-zero k) refl
numbers-push test k (y ∷ ys) x =
    let e : (k + 1) + length ys ≡ k + length (y ∷ ys) = omega arith in
    one_more (test k y) (test (k + length (y ∷ ys)) x) k (k + length (y ∷ ys)) (k + length (y ∷ ys)) (numbers_from test (k + 1) ys) (numbers_from test (k + 1) (ys ++ x ∷ []))
    (rw e at (numbers-push test (k + 1) ys x)) refl

pub take-step : {A : Type 0} (xs : List A) (n : ℕ) (x : A) → slice_get xs n ≡ Some x → take (n + 1) xs ≡ take n xs ++ x ∷ []
take-step [] n x e = absurd cc
take-step (y ∷ ys) zero x e = (let f : y ≡ x = cc in ap (λ z. z ∷ []) f)
take-step (y ∷ ys) (suc n) x e =
    let s : suc n + 1 ≡ suc (n + 1) = omega arith in
    rw s (ap (λ zs. y ∷ zs) (take-step ys n x e))

pub take-length : {A : Type 0} (xs : List A) (n : ℕ) (x : A) → slice_get xs n ≡ Some x → length (take n xs) ≡ n
take-length [] n x e = absurd cc
take-length (y ∷ ys) zero x e = refl
take-length (y ∷ ys) (suc n) x e = (let r = take-length ys n x e in omega arith)

pub take-all : {A : Type 0} (xs : List A) (n : ℕ) → n ≡ length xs → take n xs ≡ xs
take-all [] zero e = refl
take-all [] (suc n) e = refl
take-all (x ∷ xs) zero e = absurd (omega arith)
take-all (x ∷ xs) (suc n) e = ap (λ zs. x ∷ zs) (take-all xs n (omega arith))

-- the numbers among one entry more
pub numbers-take : {A : Type 0} (test : ℕ → A → Bool) (xs : List A) (n : ℕ) (x : A) → slice_get xs n ≡ Some x → numbers_from test 0 (take (n + 1) xs) ≡ cond (test n x) (numbers_from test 0 (take n xs) ++ n ∷ []) (numbers_from test 0 (take n xs))
numbers-take test xs n x e =
    let l : 0 + length (take n xs) ≡ n = (let r = take-length xs n x e in omega arith) in
    ap (numbers_from test 0) (take-step xs n x e) ∙ rw l at (numbers-push test 0 (take n xs) x)

-- ---- where they are

-- each is at least k, and below n
abbrev pub AreBetween : ℕ → ℕ → List ℕ → Type 0
AreBetween k n [] = Unit {0}
AreBetween k n (x ∷ xs) = (k ≤ x) × ((x < n) × AreBetween k n xs)

wider : (k m n : ℕ) (xs : List ℕ) → k ≤ m → AreBetween m n xs → AreBetween k n xs
wider k m n [] l a = tt
wider k m n (x ∷ xs) l a = (let low = a.0 in omega arith, (a.1.0, wider k m n xs l a.1.1))

put : (b : Bool) (k n : ℕ) (xs : List ℕ) → k < n → AreBetween (k + 1) n xs → AreBetween k n (cond b (k ∷ xs) xs)
put true k n xs l a = (omega arith, (l, wider k (k + 1) n xs (omega arith) a))
put false k n xs l a = wider k (k + 1) n xs (omega arith) a

pub numbers-between : {A : Type 0} (test : ℕ → A → Bool) (k n : ℕ) (xs : List A) → n ≡ k + length xs → AreBetween k n (numbers_from test k xs)
numbers-between test k n [] e = tt
numbers-between test k n (x ∷ xs) e =
    put (test k x) k n (numbers_from test (k + 1) xs) (omega arith) (numbers-between test (k + 1) n xs (omega arith))

-- ---- the last of them

abbrev last_test : ℕ → Option ℕ → Bool
last_test n o = elim o [ Some m ↦ m == n | None ↦ false ]

last-skip : (n x y : ℕ) (ys : List ℕ) → is_last n (x ∷ y ∷ ys) ≡ is_last n (y ∷ ys)
last-skip n x y ys = (let e : length (x ∷ y ∷ ys) - 1 ≡ suc (length (y ∷ ys) - 1) = omega arith in ap (λ (k : ℕ). last_test n (slice_get (x ∷ y ∷ ys) k)) e)

differ : (x n : ℕ) → x < n → (x == n) ≡ false
differ x n l = grind (arith, nat_tests)

below_last : (n : ℕ) (k : ℕ) (x : ℕ) (xs : List ℕ) → AreBetween k n (x ∷ xs) → is_last n (x ∷ xs) ≡ false
below_last n k x [] a = differ x n a.1.0
below_last n k x (y ∷ ys) a = last-skip n x y ys ∙ below_last n k y ys a.1.1

pub not_last : (n k : ℕ) (xs : List ℕ) → AreBetween k n xs → is_last n xs ≡ false
not_last n k [] a = refl
not_last n k (x ∷ xs) a = below_last n k x xs a

last_there : (n x : ℕ) (xs : List ℕ) → is_last n ((x ∷ xs) ++ n ∷ []) ≡ true
last_there n x [] = eq-eqb n n refl
last_there n x (y ∷ ys) = last-skip n x y (ys ++ n ∷ []) ∙ last_there n y ys

pub is_last-push : (n : ℕ) (xs : List ℕ) → is_last n (xs ++ n ∷ []) ≡ true
is_last-push n [] = eq-eqb n n refl
is_last-push n (x ∷ xs) = last_there n x xs

once_more : (b : Bool) (n : ℕ) (xs : List ℕ) → is_last n xs ≡ b → with_last n (cond b xs (xs ++ n ∷ [])) ≡ cond b xs (xs ++ n ∷ [])
once_more true n xs e = rw e refl
once_more false n xs e = rw (is_last-push n xs) refl

-- what is last already is not added again
pub with_last-twice : (n : ℕ) (xs : List ℕ) → with_last n (with_last n xs) ≡ with_last n xs
with_last-twice n xs = once_more (is_last n xs) n xs refl

pub with_last-or : (a b : Bool) (n : ℕ) (xs : List ℕ) → with_last_if b n (with_last_if a n xs) ≡ with_last_if (a || b) n xs
with_last-or true true n xs = with_last-twice n xs
with_last-or true false n xs = refl
with_last-or false b n xs = refl

-- the same, where both are asked under a condition
pub with_last-more : (g a b : Bool) (n : ℕ) (xs ys : List ℕ) → ys ≡ with_last_if (g && a) n xs → with_last_if (g && b) n ys ≡ with_last_if (g && (a || b)) n xs
with_last-more true a b n xs ys e = ap (λ l. with_last_if b n l) e ∙ with_last-or a b n xs
with_last-more false a b n xs ys e = e
