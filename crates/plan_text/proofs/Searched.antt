-- A search in numbers that ascend.
use Rattle.std.proofs.Common.{◌≡◌, ℕ, suc, zero, ◌+◌, ◌<◌, ◌≤◌, ◌≢◌, true, false, List, [], ◌∷◌, length, get_or, Ok, Err, refl, sym, arith, Result, Option, Some, None, option_map, ◌==◌, nat_lt, slice_get, is_ok, nat_cmp}
use Rattle.std.specs.List.Sorted.{IsBinarySearchResult}
use Rattle.std.proofs.lemmas.List.Sorted.{searched}
use Rattle.plan_text.proofs.Terms.{has, Planned, EachPlanned}
use Rattle.plan_text.specs.Steps.{depends}
use Rattle.texts.specs.Numbers.{ascending}
use Rattle.std.proofs.lemmas.Bool.{ltb-true, and_parts, ne_eqb, eq-eqb}
use Rattle.ring_names.proofs.Logic.{or_true}

ascends-head : (x : ℕ) (xs : List ℕ) → ascending (x ∷ xs) ≡ true → (j : ℕ) → j < length xs → x < get_or xs j 0
ascends-head x [] e j h = absurd (omega arith)
ascends-head x (y ∷ ys) e zero h = ltb-true x y (and_parts (nat_lt x y) (ascending (y ∷ ys)) e).0
ascends-head x (y ∷ ys) e (suc j) h =
    let b = and_parts (nat_lt x y) (ascending (y ∷ ys)) e in
    let first = ltb-true x y b.0 in
    let rest = ascends-head y ys b.1 j (omega arith) in
    omega arith

pub ascends-tail : (x : ℕ) (xs : List ℕ) → ascending (x ∷ xs) ≡ true → ascending xs ≡ true
ascends-tail x [] e = refl
ascends-tail x (y ∷ ys) e = (and_parts (nat_lt x y) (ascending (y ∷ ys)) e).1

pub ascends-below : (xs : List ℕ) → ascending xs ≡ true → (i j : ℕ) → i < j → j < length xs → get_or xs i 0 < get_or xs j 0
ascends-below [] e i j h k = absurd (omega arith)
ascends-below (x ∷ xs) e i zero h k = absurd (omega arith)
ascends-below (x ∷ xs) e zero (suc j) h k = ascends-head x xs e j (omega arith)
ascends-below (x ∷ xs) e (suc i) (suc j) h k = ascends-below xs (ascends-tail x xs e) i j (omega arith) (omega arith)

pub rises : (xs : List ℕ) → ascending xs ≡ true → (i j : ℕ) → i ≤ j → j < length xs → get_or xs i 0 ≤ get_or xs j 0
rises [] e i j h k = absurd (omega arith)
rises (x ∷ xs) e zero zero h k = omega arith
rises (x ∷ xs) e (suc i) zero h k = absurd (omega arith)
rises (x ∷ xs) e zero (suc j) h k = let l = ascends-head x xs e j (omega arith) in omega arith
rises (x ∷ xs) e (suc i) (suc j) h k = rises xs (ascends-tail x xs e) i j (omega arith) (omega arith)

has-at : (x : ℕ) (xs : List ℕ) (i : ℕ) → i < length xs → get_or xs i 0 ≡ x → has x xs ≡ true
has-at x [] i h e = absurd (omega arith)
has-at x (y ∷ ys) zero h e = rw (eq-eqb x y (sym e)) refl
has-at x (y ∷ ys) (suc i) h e = rw (has-at x ys i (omega arith) e) (or_true (x == y))

has-none : (x : ℕ) (xs : List ℕ) → ((i : ℕ) → i < length xs → get_or xs i 0 ≢ x) → has x xs ≡ false
has-none x [] apart = refl
has-none x (y ∷ ys) apart =
    rw (ne_eqb x y (λ e. apart 0 (omega arith) (sym e)), has-none x ys (λ i h. apart (suc i) (omega arith))) refl

out : (xs : List ℕ) (x i k : ℕ) → ((j : ℕ) → j < i → get_or xs j 0 < x) → ((j : ℕ) → i ≤ j → j < length xs → x < get_or xs j 0) → k < length xs → get_or xs k 0 ≢ x
out xs x i k low high h e =
    let down : (k < i → get_or xs k 0 < x) = low k in
    let up : (i ≤ k → x < get_or xs k 0) = λ l. high k l h in
    grind arith

pub search-has : (xs : List ℕ) (x : ℕ) (r : Result ℕ ℕ) → IsBinarySearchResult (λ y. nat_cmp y x) xs r → ascending xs ≡ true → is_ok r ≡ has x xs
search-has xs x (Ok i) found e =
    let s = searched xs x (Ok i) found (rises xs e) in
    sym (has-at x xs i s.0 s.1)
search-has xs x (Err i) found e =
    let s = searched xs x (Err i) found (rises xs e) in
    sym (has-none x xs (λ k h is. out xs x i k s.1 s.2 h is))

pub deps-ascend : (k : ℕ) (plan : List Planned) (b : ℕ) (ds : List ℕ) → EachPlanned k plan → option_map (λ (x : Planned). x.after) (slice_get plan b) ≡ Some ds → ascending ds ≡ true
deps-ascend k [] b ds each e = absurd cc
deps-ascend k (x ∷ xs) zero ds each e = (let f : x.after ≡ ds = cc in rw f at each.0.ascending)
deps-ascend k (x ∷ xs) (suc b) ds each e = deps-ascend (k + 1) xs b ds each.1 e

has-deps : (a : ℕ) (o : Option Planned) (ds : List ℕ) → option_map (λ (x : Planned). x.after) o ≡ Some ds → has a ds ≡ (elim o [ Some x ↦ has a x.after | None ↦ false ])
has-deps a None ds e = absurd cc
has-deps a (Some x) ds e = let f : x.after ≡ ds = cc in rw f refl

pub depends-deps : (plan : List Planned) (a b : ℕ) (ds : List ℕ) → option_map (λ (x : Planned). x.after) (slice_get plan b) ≡ Some ds → has a ds ≡ depends plan a b
depends-deps plan a b ds e = has-deps a (slice_get plan b) ds e
