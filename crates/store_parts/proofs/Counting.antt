-- How many numbers pass a test.
use Rattle.std.proofs.Common.{◌≡◌, ℕ, zero, suc, ◌+◌, ◌≤◌, Bool, true, false, cond, List, [], ◌∷◌, length, refl, ap, arith}
use Rattle.plan_runs.specs.World.{passing_from, passing_below}

-- one if the test holds, otherwise none
abbrev pub one : Bool → ℕ
one true = 1
one false = 0

-- the first of the numbers
first : (b : Bool) (k : ℕ) (xs : List ℕ) → length (cond b (k ∷ xs) xs) ≡ one b + length xs
first true k xs = omega arith
first false k xs = omega arith

one_most : (b : Bool) → one b ≤ 1
one_most true = omega arith
one_most false = omega arith

-- one number more
next : (k n : ℕ) (test : ℕ → Bool) → length (passing_from k (suc n) test) ≡ length (passing_from k n test) + one (test (k + n))
next k zero test = (let f = first (test k) k [] in let e : k + 0 ≡ k = omega arith in rw e (omega arith))
next k (suc n) test =
    let f = first (test k) k (passing_from (k + 1) (suc n) test) in
    let g = first (test k) k (passing_from (k + 1) n test) in
    let h = next (k + 1) n test in
    let e : test (k + 1 + n) ≡ test (k + suc n) = ap test (omega arith) in
    let i = ap one e in
    omega arith

pub count_next : (n : ℕ) (test : ℕ → Bool) → length (passing_below (n + 1) test) ≡ length (passing_below n test) + one (test n)
count_next n test = (let h = next 0 n test in let e : n + 1 ≡ suc n = omega arith in let f : 0 + n ≡ n = omega arith in rw (e, h, f) refl)

most : (k n : ℕ) (test : ℕ → Bool) → length (passing_from k n test) ≤ n
most k zero test = omega arith
most k (suc n) test =
    (let f = first (test k) k (passing_from (k + 1) n test) in let g = most (k + 1) n test in let h = one_most (test k) in omega arith)

-- there are no more than there are numbers
pub count_most : (n : ℕ) (test : ℕ → Bool) → length (passing_below n test) ≤ n
count_most n test = most 0 n test

none_from : (k n : ℕ) (test : ℕ → Bool) → ((m : ℕ) → test m ≡ false) → length (passing_from k n test) ≡ 0
none_from k zero test h = refl
none_from k (suc n) test h = rw (h k) (none_from (k + 1) n test h)

-- where none passes there are none
pub count_none : (n : ℕ) (test : ℕ → Bool) → ((m : ℕ) → test m ≡ false) → length (passing_below n test) ≡ 0
count_none n test h = none_from 0 n test h
