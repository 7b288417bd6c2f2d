-- Numbers that ascend, and which they are.
use Rattle.std.proofs.Common.{◌≡◌, ◌∙◌, ℕ, suc, zero, ◌+◌, ◌<◌, ◌≤◌, Bool, true, false, cond, List, [], ◌∷◌, length, get_or, take, drop, Ok, Err, refl, sym, ap, arith}
use Rattle.std.specs.Prelude.{◌&&◌, ◌||◌, ◌==◌, nat_lt}
use Rattle.std.specs.List.{filter, list_any, take_while, range_with_len}
use Rattle.std.specs.List.Sorted.{IsBinarySearchResult}
use Rattle.std.specs.Ordering.{nat_cmp}
use Rattle.std.specs.Cmp.{unsigned_ties}
use Rattle.std.specs.BTreeMap.{is_at}
use Rattle.std.proofs.lemmas.Bool.{and_parts, lt-ltb, ltb-true, eqb-true}
use Rattle.std.proofs.lemmas.Bool.Decides.{nat_tests}
use Rattle.std.proofs.lemmas.List.Sums.{take_while-cons}
use Rattle.std.proofs.lemmas.List.Sorted.{searched}
use Rattle.ring_names.specs.Lists.{has}
use Rattle.ring_names.proofs.Logic.{and_false, or_assoc, or_false, eqb_turned}
use Rattle.texts.specs.Numbers.{ascending}
use Rattle.plan_text.proofs.Searched.{ascends-tail, ascends-below, rises}
use Rattle.plan_stage.proofs.Looking.{same-numbers}

-- ---- what a part of them keeps

first-below : (x y : ℕ) (ys : List ℕ) → ascending (x ∷ y ∷ ys) ≡ true → x < y
first-below x y ys h = ltb-true x y (and_parts (nat_lt x y) (ascending (y ∷ ys)) h).0

in_front : (x y : ℕ) (ys : List ℕ) → x < y → ascending (y ∷ ys) ≡ true → ascending (x ∷ y ∷ ys) ≡ true
in_front x y ys l h = rw (lt-ltb x y l, h) refl

-- a smaller number in place of the first
lower : (x y : ℕ) (ys : List ℕ) → x < y → ascending (y ∷ ys) ≡ true → ascending (x ∷ ys) ≡ true
lower x y [] l h = refl
lower x y (z ∷ zs) l h = (let m = first-below y z zs h in in_front x z zs (omega arith) (ascends-tail y (z ∷ zs) h))

-- those that pass a test, behind the first
passing-ascend : (q : ℕ → Bool) (x : ℕ) (xs : List ℕ) → ascending (x ∷ xs) ≡ true → ascending (x ∷ filter q xs) ≡ true
passing-ascend q x [] h = refl
passing-ascend q x (y ∷ ys) h = by (q y) (passing-ascend q y ys (ascends-tail x (y ∷ ys) h)) (passing-ascend q x ys (lower x y ys (first-below x y ys h) (ascends-tail x (y ∷ ys) h)))
  where
    by : (b : Bool) → ascending (y ∷ filter q ys) ≡ true → ascending (x ∷ filter q ys) ≡ true → ascending (x ∷ cond b (y ∷ filter q ys) (filter q ys)) ≡ true
    by true here there = in_front x y (filter q ys) (first-below x y ys h) here
    by false here there = there

-- those that are greater than a number, behind it
pub greater-ascend : (n : ℕ) (xs : List ℕ) → ascending xs ≡ true → ascending (n ∷ filter (λ s. nat_lt n s) xs) ≡ true
greater-ascend n [] h = refl
greater-ascend n (x ∷ xs) h = by (nat_lt n x) refl (greater-ascend n xs (ascends-tail x xs h))
  where
    by : (b : Bool) → nat_lt n x ≡ b → ascending (n ∷ filter (λ s. nat_lt n s) xs) ≡ true → ascending (n ∷ cond b (x ∷ filter (λ s. nat_lt n s) xs) (filter (λ s. nat_lt n s) xs)) ≡ true
    by true e there = in_front n x (filter (λ s. nat_lt n s) xs) (ltb-true n x e) (passing-ascend (λ s. nat_lt n s) x xs h)
    by false e there = there

-- those in front of the first that fails
pub front-ascend : (p : ℕ → Bool) (x : ℕ) (xs : List ℕ) → ascending (x ∷ xs) ≡ true → ascending (x ∷ take_while p xs) ≡ true
front-ascend p x [] h = refl
front-ascend p x (y ∷ ys) h = rw (take_while-cons p y ys) (by (p y) (front-ascend p y ys (ascends-tail x (y ∷ ys) h)))
  where
    by : (b : Bool) → ascending (y ∷ take_while p ys) ≡ true → ascending (x ∷ cond b (y ∷ take_while p ys) []) ≡ true
    by true there = in_front x y (take_while p ys) (first-below x y ys h) there
    by false there = refl

-- ---- a search for those that are greater

rest-greater : (n : ℕ) (xs : List ℕ) (i : ℕ) → ((k : ℕ) → k < i → k < length xs → get_or xs k 0 ≤ n) → ((k : ℕ) → i ≤ k → k < length xs → n < get_or xs k 0) → drop i xs ≡ filter (λ s. nat_lt n s) xs
rest-greater n [] zero low high = refl
rest-greater n [] (suc i) low high = refl
rest-greater n (x ∷ xs) zero low high =
    let here : nat_lt n x ≡ true = lt-ltb n x (high 0 (omega arith) (omega arith)) in
    rw here (ap (λ (l : List ℕ). x ∷ l) (rest-greater n xs 0 (λ k l m. absurd (omega arith)) (λ k l m. high (suc k) (omega arith) (omega arith))))
rest-greater n (x ∷ xs) (suc i) low high =
    let l : x ≤ n = low 0 (omega arith) (omega arith) in
    let here : nat_lt n x ≡ false = grind (arith, nat_tests) in
    rw here (rest-greater n xs i (λ k l m. low (suc k) (omega arith) (omega arith)) (λ k l m. high (suc k) (omega arith) (omega arith)))

pub found-greater : (n : ℕ) (xs : List ℕ) (i : ℕ) → IsBinarySearchResult (λ y. nat_cmp y n) xs (Ok i) → ascending xs ≡ true → drop (i + 1) xs ≡ filter (λ s. nat_lt n s) xs
found-greater n xs i found h =
    let s = searched xs n (Ok i) found (rises xs h) in
    rest-greater n xs (i + 1) (λ k l m. let r = rises xs h k i (omega arith) s.0 in omega (arith, s.1)) (λ k l m. let r = ascends-below xs h i k (omega arith) m in omega (arith, s.1))

pub missed-greater : (n : ℕ) (xs : List ℕ) (i : ℕ) → IsBinarySearchResult (λ y. nat_cmp y n) xs (Err i) → ascending xs ≡ true → drop i xs ≡ filter (λ s. nat_lt n s) xs
missed-greater n xs i found h =
    let s = searched xs n (Err i) found (rises xs h) in
    rest-greater n xs i (λ k l m. let r = s.1 k l in omega arith) (λ k l m. s.2 k l m)

-- ---- which numbers they are

-- two that ascend and have the same numbers are equal
pub equal-numbers : (xs ys : List ℕ) → ascending xs ≡ true → ascending ys ≡ true → ((m : ℕ) → has m xs ≡ has m ys) → xs ≡ ys
equal-numbers xs ys a b same = same-numbers xs ys a b (λ m h. sym (same m) ∙ h) (λ m h. same m ∙ h)

-- ---- those of a set, and those of a range that pass a test

pub has-any : (n : ℕ) (ks : List ℕ) → list_any (is_at (nat_cmp n)) ks ≡ has n ks
has-any n [] = refl
has-any n (k ∷ ks) = ap (λ (b : Bool). b || list_any (is_at (nat_cmp n)) ks) (sym (unsigned_ties n k)) ∙ ap (λ (b : Bool). (n == k) || b) (has-any n ks)

-- a set with one number more
pub has-inserted : (old new : List ℕ) (x : ℕ) → ((q : ℕ) → list_any (is_at (nat_cmp q)) new ≡ cond (is_at (nat_cmp x) q) true (list_any (is_at (nat_cmp q)) old)) → (n : ℕ) → has n new ≡ ((n == x) || has n old)
has-inserted old new x more n =
    sym (has-any n new) ∙ more n ∙ ap (λ (b : Bool). cond b true (list_any (is_at (nat_cmp n)) old)) (sym (unsigned_ties x n) ∙ eqb_turned x n) ∙ ap (λ (b : Bool). cond (n == x) true b) (has-any n old)
    ∙ one_or (n == x) (has n old)
  where
    one_or : (a b : Bool) → cond a true b ≡ (a || b)
    one_or true b = refl
    one_or false b = refl

range-ascends : (x a n : ℕ) → x < a → ascending (x ∷ range_with_len a n) ≡ true
range-ascends x a zero l = refl
range-ascends x a (suc n) l = in_front x a (range_with_len (a + 1) n) l (range-ascends a (a + 1) n (omega arith))

pub passing-range : (q : ℕ → Bool) (n : ℕ) → ascending (filter q (range_with_len 0 n)) ≡ true
passing-range q zero = refl
passing-range q (suc n) = by (q 0) (passing-ascend q 0 (range_with_len 1 n) (range-ascends 0 1 n (omega arith)))
  where
    by : (b : Bool) → ascending (0 ∷ filter q (range_with_len 1 n)) ≡ true → ascending (cond b (0 ∷ filter q (range_with_len 1 n)) (filter q (range_with_len 1 n))) ≡ true
    by true h = h
    by false h = ascends-tail 0 (filter q (range_with_len 1 n)) h

pub has-passing : (q : ℕ → Bool) (xs : List ℕ) (n : ℕ) → has n (filter q xs) ≡ (has n xs && q n)
has-passing q [] n = refl
has-passing q (x ∷ xs) n = by (q x) (n == x) refl (λ e. ap q (eqb-true n x e)) (has-passing q xs n)
  where
    by : (b e : Bool) → (n == x) ≡ e → (e ≡ true → q n ≡ b) → has n (filter q xs) ≡ (has n xs && q n) → has n (cond b (x ∷ filter q xs) (filter q xs)) ≡ ((e || has n xs) && q n)
    by true true is f h = rw (is, f refl) refl
    by true false is f h = rw is h
    by false true is f h = h ∙ rw (f refl) (and_false (has n xs))
    by false false is f h = h

pub has-range : (a n m : ℕ) → a ≤ m → has m (range_with_len a n) ≡ nat_lt m (a + n)
has-range a zero m l = (let e : nat_lt m (a + 0) ≡ false = grind (arith, nat_tests) in sym e)
has-range a (suc n) m l = by (m == a) refl (λ k. has-range (a + 1) n m k)
  where
    by : (b : Bool) → (m == a) ≡ b → (a + 1 ≤ m → has m (range_with_len (a + 1) n) ≡ nat_lt m ((a + 1) + n)) → (b || has m (range_with_len (a + 1) n)) ≡ nat_lt m (a + suc n)
    by true e later = (let i = eqb-true m a e in let r : nat_lt m (a + suc n) ≡ true = lt-ltb m (a + suc n) (omega arith) in sym r)
    by false e later =
        let d : a + 1 ≤ m = grind (arith, nat_tests) in
        let s : (a + 1) + n ≡ a + suc n = omega arith in
        later d ∙ ap (nat_lt m) s

-- the numbers of one place more
pub has-more : (n : ℕ) (xs : List ℕ) (i d : ℕ) → i < length xs → has n (take (i + 1) xs) ≡ (has n (take i xs) || (n == get_or xs i d))
has-more n [] i d l = absurd (omega arith)
has-more n (x ∷ xs) zero d l = or_false (n == x)
has-more n (x ∷ xs) (suc i) d l =
    let s : suc i + 1 ≡ suc (i + 1) = omega arith in
    rw s (rw (has-more n xs i d (omega arith)) (or_assoc (n == x) (has n (take i xs)) (n == get_or xs i d)))
