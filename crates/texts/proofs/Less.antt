-- Of two numbers the one with more digits is greater, and of equally many digits the first that differ decide.
use Rattle.std.proofs.Common.{◌≡◌, ℕ, zero, suc, ◌+◌, ◌-◌, ◌*◌, ◌<◌, ◌≤◌, Bool, true, false, ◌||◌, ◌⊎◌, inl, inr, eqb, nat_lt, List, [], ◌∷◌, length, get_or, take, refl, sym, arith}
use Rattle.std.specs.Str.{all_ascii_digits}
use Rattle.std.specs.Char.{is_ascii_digit}
use Rattle.std.proofs.lemmas.Bool.{lt-ltb, ltb-true, eqb-true, le-ltb, and_parts, or_cases}
use Rattle.std.proofs.lemmas.Bool.Decides.{nat_tests}
use Rattle.texts.specs.Number.{value_from, is_number}

digit-most : (c : ℕ) → is_ascii_digit c ≡ true → (48 ≤ c) × (c ≤ 57)
digit-most c e = grind (arith, nat_tests)

-- a greater front decides
front-less : (n m : ℕ) (us vs : List ℕ) → all_ascii_digits us ≡ true → length us ≡ length vs → n < m → value_from n us < value_from m vs
front-less n m [] [] da e l = l
front-less n m [] (b ∷ vs) da e l = absurd (omega arith)
front-less n m (a ∷ us) [] da e l = absurd (omega arith)
front-less n m (a ∷ us) (b ∷ vs) da e l =
    let d = and_parts (is_ascii_digit a) (all_ascii_digits us) da in
    let most = digit-most a d.0 in
    front-less (10 * n + (a - 48)) (10 * m + (b - 48)) us vs d.1 (omega arith) (omega arith)

split-le : (a b : ℕ) → a ≤ b → (a ≡ b) ⊎ (a + 1 ≤ b)
split-le a b l = by (nat_lt a b) refl
  where
    by : (t : Bool) → nat_lt a b ≡ t → (a ≡ b) ⊎ (a + 1 ≤ b)
    by true e = let h = ltb-true a b e in inr (omega arith)
    by false e = inl (grind (arith, nat_tests))

-- so do more digits
more-less : (k : ℕ) (us vs : List ℕ) → all_ascii_digits us ≡ true → length us ≤ length vs → 0 < k → value_from 0 us < value_from k vs
more-less k [] [] da l p = p
more-less k (a ∷ us) [] da l p = absurd (omega arith)
more-less k us (b ∷ vs) da l p = elim (split-le (length us) (length (b ∷ vs)) l) [ inl e ↦ front-less 0 k us (b ∷ vs) da e p | inr h ↦ more-less (10 * k + (b - 48)) us vs da (omega arith) (omega arith) ]

-- the first digits that differ decide
first-less : (n i : ℕ) (us vs : List ℕ) → all_ascii_digits us ≡ true → all_ascii_digits vs ≡ true → length us ≡ length vs → take i us ≡ take i vs → i < length us → get_or us i 0 < get_or vs i 0 → value_from n us < value_from n vs
first-less n i [] vs da db e t l lt = absurd (omega arith)
first-less n i (a ∷ us) [] da db e t l lt = absurd (omega arith)
first-less n zero (a ∷ us) (b ∷ vs) da db e t l lt =
    let d = and_parts (is_ascii_digit a) (all_ascii_digits us) da in
    let c = and_parts (is_ascii_digit b) (all_ascii_digits vs) db in
    let least = digit-most a d.0 in
    front-less (10 * n + (a - 48)) (10 * n + (b - 48)) us vs d.1 (omega arith) (omega arith)
first-less n (suc i) (a ∷ us) (b ∷ vs) da db e t l lt =
    let d = and_parts (is_ascii_digit a) (all_ascii_digits us) da in
    let c = and_parts (is_ascii_digit b) (all_ascii_digits vs) db in
    let heads : a ≡ b = cc in
    let tails : take i us ≡ take i vs = cc in
    rw heads (first-less (10 * n + (b - 48)) i us vs d.1 c.1 (omega arith) tails (omega arith) lt)

lead : (x : ℕ) (xs : List ℕ) → is_number (x ∷ xs) ≡ true → 0 < length xs → 48 < x
lead x xs h l =
    let p = and_parts (all_ascii_digits (x ∷ xs)) (nat_lt 48 x || eqb (length (x ∷ xs)) 1) h in
    elim (or_cases (nat_lt 48 x) (eqb (length (x ∷ xs)) 1) p.1) [ inl e ↦ ltb-true 48 x e | inr e ↦ let f = eqb-true (length (x ∷ xs)) 1 e in absurd (omega arith) ]

filled : (xs : List ℕ) → is_number xs ≡ true → 0 < length xs
filled [] h = absurd cc
filled (x ∷ xs) h = omega arith

-- the shorter number is less
pub shorter : (us vs : List ℕ) → is_number us ≡ true → is_number vs ≡ true → length us < length vs → value_from 0 us < value_from 0 vs
shorter us [] ha hb l = absurd (omega arith)
shorter us (b ∷ vs) ha hb l =
    let f = filled us ha in
    let top = lead b vs hb (omega arith) in
    more-less (10 * 0 + (b - 48)) us vs (and_parts (all_ascii_digits us) (nat_lt 48 (get_or us 0 0) || eqb (length us) 1) ha).0 (omega arith) (omega arith)

digits : (us : List ℕ) → is_number us ≡ true → all_ascii_digits us ≡ true
digits us ha = (and_parts (all_ascii_digits us) (nat_lt 48 (get_or us 0 0) || eqb (length us) 1) ha).0

pub less-shorter : (us vs : List ℕ) → length us < length vs → is_number us ≡ true → is_number vs ≡ true → true ≡ nat_lt (value_from 0 us) (value_from 0 vs)
less-shorter us vs l ha hb = sym (lt-ltb _ _ (shorter us vs ha hb l))

pub less-longer : (us vs : List ℕ) → length vs < length us → is_number us ≡ true → is_number vs ≡ true → false ≡ nat_lt (value_from 0 us) (value_from 0 vs)
less-longer us vs l ha hb = let h = shorter vs us hb ha l in sym (le-ltb _ _ (omega arith))

pub less-first : (us vs : List ℕ) (i : ℕ) → length us ≡ length vs → take i us ≡ take i vs → i < length us → get_or us i 0 < get_or vs i 0 → is_number us ≡ true → is_number vs ≡ true → true ≡ nat_lt (value_from 0 us) (value_from 0 vs)
less-first us vs i e t l lt ha hb = sym (lt-ltb _ _ (first-less 0 i us vs (digits us ha) (digits vs hb) e t l lt))

pub less-second : (us vs : List ℕ) (i : ℕ) → length us ≡ length vs → take i us ≡ take i vs → i < length us → get_or vs i 0 < get_or us i 0 → is_number us ≡ true → is_number vs ≡ true → false ≡ nat_lt (value_from 0 us) (value_from 0 vs)
less-second us vs i e t l lt ha hb = let h = first-less 0 i vs us (digits vs hb) (digits us ha) (sym e) (sym t) (omega arith) lt in sym (le-ltb _ _ (omega arith))
