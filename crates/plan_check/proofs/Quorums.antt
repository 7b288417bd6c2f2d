-- Two lists of different numbers below n that are together longer than n share one.
use Rattle.std.proofs.Common.{◌≡◌, ◌≢◌, inl, inr, ℕ, zero, suc, ◌+◌, ◌<◌, ◌≤◌, Bool, true, false, not, cond, List, [], ◌∷◌, length, refl, sym, ap, subst, arith}
use Rattle.std.specs.Prelude.{◌==◌, ◌||◌, nat_lt, if◌then◌else◌}
use Rattle.std.specs.List.{list_all}
use Rattle.std.proofs.lemmas.Bool.{lt-ltb, ltb-true, and_parts, not-true, or_right}
use Rattle.std.proofs.lemmas.Bool.Decides.{eqb_tells}
use Rattle.ring_names.specs.Lists.{has, all_different}

-- the list without a number
abbrev pub without : ℕ → List ℕ → List ℕ
without n [] = []
without n (x ∷ xs) = if n == x then without n xs else x ∷ without n xs

pub by_equal : (n x : ℕ) (P : Bool → Type 0) → (n ≡ x → P true) → (n ≢ x → P false) → P (n == x)
by_equal n x P same apart = elim (eqb_tells n x) [ inl t ↦ subst P (sym t.0) (same t.1) | inr t ↦ subst P (sym t.0) (apart t.1) ]

first : (b c d : Bool) → (c ≡ true → d ≡ true) → (b || c) ≡ true → (b || d) ≡ true
first true c d more g = refl
first false c d more g = more g

pub kept-in : (n y : ℕ) (xs : List ℕ) → has y (without n xs) ≡ true → has y xs ≡ true
kept-in n y [] h = h
kept-in n y (x ∷ xs) h = by_equal n x (λ b. has y (cond b (without n xs) (x ∷ without n xs)) ≡ true → ((y == x) || has y xs) ≡ true)
    (λ e g. or_right (y == x) (has y xs) (kept-in n y xs g))
    (λ e g. first (y == x) (has y (without n xs)) (has y xs) (λ k. kept-in n y xs k) g) h

kept-out : (n y : ℕ) (xs : List ℕ) → has y xs ≡ false → has y (without n xs) ≡ false
kept-out n y xs h = by (has y (without n xs)) refl
  where
    clash : (b : Bool) → b ≡ true → b ≡ false → ⊥
    clash b p q = cc

    by : (b : Bool) → has y (without n xs) ≡ b → b ≡ false
    by true e = absurd (clash (has y xs) (kept-in n y xs e) h)
    by false e = refl

pub different-without : (n : ℕ) (xs : List ℕ) → all_different xs ≡ true → all_different (without n xs) ≡ true
different-without n [] h = refl
different-without n (x ∷ xs) h =
    let p = and_parts (not (has x xs)) (all_different xs) h in
    let rest = different-without n xs p.1 in
    by_equal n x (λ b. all_different (cond b (without n xs) (x ∷ without n xs)) ≡ true)
    (λ e. rest)
    (λ e. rw (kept-out n x xs (not-true (has x xs) p.0), rest) refl)

less-without : (n : ℕ) (xs : List ℕ) → list_all (λ x. nat_lt x (suc n)) xs ≡ true → list_all (λ x. nat_lt x n) (without n xs) ≡ true
less-without n [] h = refl
less-without n (x ∷ xs) h =
    let p = and_parts (nat_lt x (suc n)) (list_all (λ x. nat_lt x (suc n)) xs) h in
    let rest = less-without n xs p.1 in
    by_equal n x (λ b. list_all (λ x. nat_lt x n) (cond b (without n xs) (x ∷ without n xs)) ≡ true)
    (λ e. rest)
    (λ e. (let lt = ltb-true x (suc n) p.0 in let less = lt-ltb x n (grind (arith, lt, e)) in rw (less, rest) refl))

-- nothing is taken if the number is not there, and one if it is
none-taken : (n : ℕ) (xs : List ℕ) → has n xs ≡ false → length (without n xs) ≡ length xs
none-taken n [] h = refl
none-taken n (x ∷ xs) h = by_equal n x (λ b. (b || has n xs) ≡ false → length (cond b (without n xs) (x ∷ without n xs)) ≡ suc (length xs))
    (λ e g. absurd cc)
    (λ e g. ap (λ m. suc m) (none-taken n xs g)) h

pub one-taken : (n : ℕ) (xs : List ℕ) → all_different xs ≡ true → length xs ≤ length (without n xs) + 1
one-taken n [] h = omega arith
one-taken n (x ∷ xs) h =
    let p = and_parts (not (has x xs)) (all_different xs) h in
    by_equal n x (λ b. suc (length xs) ≤ length (cond b (without n xs) (x ∷ without n xs)) + 1)
    (λ e. (let same = none-taken n xs (subst (λ m. has m xs ≡ false) (sym e) (not-true (has x xs) p.0)) in omega arith))
    (λ e. (let rest = one-taken n xs p.1 in omega arith))

pub meet : (n : ℕ) (xs ys : List ℕ) → all_different xs ≡ true → all_different ys ≡ true → list_all (λ x. nat_lt x n) xs ≡ true → list_all (λ y. nat_lt y n) ys ≡ true → n < length xs + length ys
    → (x : ℕ) × (has x xs ≡ true) × (has x ys ≡ true)
meet zero [] [] dx dy lx ly more = absurd (omega arith)
meet zero [] (y ∷ ys) dx dy lx ly more = let p = and_parts (nat_lt y 0) (list_all (λ x. nat_lt x 0) ys) ly in let lt = ltb-true y 0 p.0 in absurd (omega arith)
meet zero (x ∷ xs) ys dx dy lx ly more = let p = and_parts (nat_lt x 0) (list_all (λ x. nat_lt x 0) xs) lx in let lt = ltb-true x 0 p.0 in absurd (omega arith)
meet (suc n) xs ys dx dy lx ly more = by (has n xs) (has n ys) refl refl
    (λ l. meet n (without n xs) (without n ys) (different-without n xs dx) (different-without n ys dy) (less-without n xs lx) (less-without n ys ly) l)
  where
    by : (b c : Bool) → has n xs ≡ b → has n ys ≡ c → (n < length (without n xs) + length (without n ys) → (x : ℕ) × (has x (without n xs) ≡ true) × (has x (without n ys) ≡ true)) → (x : ℕ) × (has x xs ≡ true) × (has x ys ≡ true)
    by true true h k rest = (n, h, k)
    by true false h k rest =
        let one = one-taken n xs dx in
        let none = none-taken n ys k in
        let r = rest (omega arith) in
        (r.0, kept-in n r.0 xs r.1, kept-in n r.0 ys r.2)
    by false c h k rest =
        let one = one-taken n ys dy in
        let none = none-taken n xs h in
        let r = rest (omega arith) in
        (r.0, kept-in n r.0 xs r.1, kept-in n r.0 ys r.2)
