-- The receipts in front that pass a test, and what is left behind them.
use Rattle.std.proofs.Common.{◌≡◌, ◌≤◌, ℕ, Bool, true, false, cond, List, [], ◌∷◌, ◌++◌, length, refl, ap, arith, inl, inr}
use Rattle.std.proofs.lemmas.Bool.{and_parts, and_from, cases_Bool}
use Rattle.std.specs.List.{list_all}
use Rattle.ring_board.specs.declared.receipt.Receipt.{Receipt}
use Rattle.ring_board.specs.Behind.{behind, behind_one, begins_with}

-- lists that are the same begin with the same, and go on with the same
first_of : Receipt → List Receipt → Receipt
first_of r [] = r
first_of r (x ∷ xs) = x

rest_of : List Receipt → List Receipt
rest_of [] = []
rest_of (x ∷ xs) = xs

pub heads : {x y : Receipt} {xs ys : List Receipt} → x ∷ xs ≡ y ∷ ys → x ≡ y
unfolding first_of
heads {x} e = ap (first_of x) e

pub tails : {x y : Receipt} {xs ys : List Receipt} → x ∷ xs ≡ y ∷ ys → xs ≡ ys
unfolding rest_of
tails e = ap rest_of e

-- a list is those that pass, and what is left
pub passed : (test : Receipt → Bool) (list : List Receipt) → (front : List Receipt) × (list ≡ front ++ behind test list) × (list_all test front ≡ true)
passed test [] = ([], refl, refl)
passed test (r ∷ rs) = elim (cases_Bool (test r)) [
  | inl pass ↦ (let more = passed test rs in (r ∷ more.0, rw pass (ap (λ xs. r ∷ xs) more.1), and_from (test r) (list_all test more.0) pass more.2))
  | inr fail ↦ ([], rw fail refl, refl)
]

-- or only the first one
pub passed_one : (test : Receipt → Bool) (list : List Receipt)
    → (front : List Receipt) × (list ≡ front ++ behind_one test list) × (list_all test front ≡ true) × (length front ≡ cond (begins_with test list) 1 0)
passed_one test [] = ([], refl, refl, refl)
passed_one test (r ∷ rs) = elim (cases_Bool (test r)) [
  | inl pass ↦ (r ∷ [], rw pass refl, and_from (test r) true pass refl, rw pass refl)
  | inr fail ↦ ([], rw fail refl, refl, rw fail refl)
]

-- so what is left behind those that pass is what stands there, where it begins with none more
pub behind_all : (test : Receipt → Bool) (front rest : List Receipt) → list_all test front ≡ true → begins_with test rest ≡ false → behind test (front ++ rest) ≡ rest
behind_all test [] [] all stop = refl
behind_all test [] (r ∷ rs) all stop = rw stop refl
behind_all test (r ∷ front) rest all stop =
    let p = and_parts (test r) (list_all test front) all in
    rw p.0 (behind_all test front rest p.1 stop)

pub behind_one_all : (test : Receipt → Bool) (front rest : List Receipt) → list_all test front ≡ true → length front ≤ 1 → begins_with test rest ≡ false
    → behind_one test (front ++ rest) ≡ rest
behind_one_all test [] [] all few stop = refl
behind_one_all test [] (r ∷ rs) all few stop = rw stop refl
behind_one_all test (r ∷ []) rest all few stop = rw (and_parts (test r) true all).0 refl
behind_one_all test (r ∷ s ∷ front) rest all few stop = absurd (omega arith)

pub begins_all : (test : Receipt → Bool) (front rest : List Receipt) (b : Bool) → list_all test front ≡ true → length front ≡ cond b 1 0 → begins_with test rest ≡ false
    → begins_with test (front ++ rest) ≡ b
begins_all test [] rest true all one stop = absurd (omega arith)
begins_all test [] rest false all one stop = stop
begins_all test (r ∷ front) rest true all one stop = (and_parts (test r) (list_all test front) all).0
begins_all test (r ∷ front) rest false all one stop = absurd (omega arith)

-- if no receipt that passes the one test passes the other
pub begins_apart : (test other : Receipt → Bool) (front rest : List Receipt) → ((r : Receipt) → test r ≡ true → other r ≡ false) → list_all test front ≡ true
    → begins_with other rest ≡ false → begins_with other (front ++ rest) ≡ false
begins_apart test other [] rest apart all stop = stop
begins_apart test other (r ∷ front) rest apart all stop = apart r (and_parts (test r) (list_all test front) all).0

pub at_most_one : (b : Bool) (n : ℕ) → n ≡ cond b 1 0 → n ≤ 1
at_most_one true n is = omega arith
at_most_one false n is = omega arith
