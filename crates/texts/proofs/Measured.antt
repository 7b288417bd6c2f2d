-- What a further number changes of what is kept of numbers in a row.
use Rattle.std.proofs.Common.{◌≡◌, ℕ, ◌+◌, ◌≤◌, ◌<◌, Bool, true, false, ◌&&◌, List, [], ◌∷◌, ◌++◌, length, min, max, take, nat_lt, length-append, refl, sym, ap, ◌∙◌, arith}
use Rattle.std.specs.Prelude.{nat_le}
use Rattle.std.specs.List.{list_all}
use Rattle.std.proofs.lemmas.Bool.{ltb-true, lt-ltb, and_parts}
use Rattle.std.proofs.lemmas.Bool.Decides.{nat_tests}
use Rattle.ring_names.proofs.Logic.{and_true}
use Rattle.texts.specs.Number.{capped}
use Rattle.texts.specs.Numbers.{ascending, are_small}
use Rattle.texts.specs.KeptRow.{Measures}
use Rattle.texts.specs.declared.measure.Measure.{Measure}

pub all_push : (f : ℕ → Bool) (xs : List ℕ) (n : ℕ) → list_all f (xs ++ n ∷ []) ≡ (list_all f xs && f n)
all_push f [] n = and_true (f n)
all_push f (x ∷ xs) n = ap (λ b. f x && b) (all_push f xs n) ∙ assoc (f x) (list_all f xs) (f n)
  where
    assoc : (a b c : Bool) → (a && (b && c)) ≡ ((a && b) && c)
    assoc true b c = refl
    assoc false b c = refl

below_both : (a b limit : ℕ) → nat_le (max a b) limit ≡ (nat_le a limit && nat_le b limit)
below_both a b limit = grind (arith, nat_tests)

below_capped : (n limit : ℕ) → limit ≤ 4294967296 → nat_le (capped n + 1) limit ≡ nat_lt n limit
below_capped n limit l = grind (arith, nat_tests)

pub bound_push : (xs : List ℕ) (n bound limit : ℕ) → limit ≤ 4294967296 → nat_le bound limit ≡ list_all (λ x. nat_lt x limit) xs → nat_le (max bound (capped n + 1)) limit ≡ list_all (λ x. nat_lt x limit) (xs ++ n ∷ [])
bound_push xs n bound limit l e = below_both bound (capped n + 1) limit ∙ rw (e, below_capped n limit l, all_push (λ x. nat_lt x limit) xs n) refl

skip_one : (a b c d e : Bool) → (a ≡ true → d ≡ true → c ≡ true) → (a && (b && (d && e))) ≡ ((a && b) && (c && (d && e)))
skip_one false b c d e h = refl
skip_one true false c d e h = refl
skip_one true true true false e h = refl
skip_one true true false false e h = refl
skip_one true true c true e h = rw (h refl refl) refl

-- a further number is greater than all before it
pub ascending_push : (xs : List ℕ) (n : ℕ) → ascending (xs ++ n ∷ []) ≡ (ascending xs && list_all (λ x. nat_lt x n) xs)
ascending_push [] n = refl
ascending_push (x ∷ []) n = refl
ascending_push (x ∷ y ∷ ys) n =
    ap (λ b. nat_lt x y && b) (ascending_push (y ∷ ys) n)
    ∙ skip_one (nat_lt x y) (ascending (y ∷ ys)) (nat_lt x n) (nat_lt y n) (list_all (λ z. nat_lt z n) ys)
    (λ e f. let a = ltb-true x y e in let b = ltb-true y n f in lt-ltb x n (omega arith))

pub small_push : (xs : List ℕ) (n : ℕ) → are_small (xs ++ n ∷ []) ≡ true → (are_small xs ≡ true) × (n < 4294967296)
small_push xs n e =
    let p = and_parts (are_small xs) (nat_lt n 4294967296) (sym (all_push (λ x. nat_lt x 4294967296) xs n) ∙ e) in
    (p.0, ltb-true n 4294967296 p.1)

pub ordered_push : (xs : List ℕ) (n bound : ℕ) (ascends : Bool) → n < 4294967296 → ascends ≡ ascending xs → nat_le bound n ≡ list_all (λ x. nat_lt x n) xs → (ascends && nat_le bound (capped n)) ≡ ascending (xs ++ n ∷ [])
ordered_push xs n bound ascends l a b =
    let same : capped n ≡ n = omega arith in
    rw (same, a, b, ascending_push xs n) refl

first_push : (xs first further : List ℕ) (n count : ℕ) → n < 4294967296 → length xs + 1 ≤ 8 → count ≡ length xs → take (length xs) first ≡ xs → (count < 8 → capped n < 4294967296 → take (count + 1) further ≡ take count first ++ capped n ∷ []) → take (length xs + 1) further ≡ xs ++ n ∷ []
first_push xs first further n count l few c t f =
    let same : capped n ≡ n = omega arith in
    let is : take (length xs + 1) further ≡ take (length xs) first ++ n ∷ [] = rw (← c, ← same) (f (omega arith) (omega arith)) in
    is ∙ ap (λ p. p ++ n ∷ []) t

-- what a further number changes
pub Measures-push : (xs : List ℕ) (n : ℕ) (old new : Measure) → Measures xs old → new.count ≡ min (old.count + 1) 18446744073709551615 → new.bound ≡ max old.bound (capped n + 1) → new.ascends ≡ (old.ascends && nat_le old.bound (capped n)) → (old.count < 8 → capped n < 4294967296 → take (old.count + 1) new.first ≡ take old.count old.first ++ capped n ∷ []) → Measures (xs ++ n ∷ []) new
Measures-push xs n old new m c b a f =
    let long : length (xs ++ n ∷ []) ≡ length xs + 1 = length-append xs (n ∷ []) in
    let counted = m.counted in
    record {
      counted = omega (arith, long, c, counted);
      bounded = λ limit l. rw b (bound_push xs n old.bound limit l (m.bounded limit l));
      ordered = λ e.
          let s = small_push xs n e in
          let small = s.1 in
          a ∙ ordered_push xs n old.bound old.ascends s.1 (m.ordered s.0) (m.bounded n (omega arith));
      first = λ e few.
          let s = small_push xs n e in
          let fit : length xs + 1 ≤ 8 = omega (arith, long, few) in
          rw long (first_push xs old.first new.first n old.count s.1 fit (omega (arith, counted, fit)) (m.first s.0 (omega (arith, fit))) f);
    }
