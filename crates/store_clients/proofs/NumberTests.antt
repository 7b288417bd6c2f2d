-- What tests of numbers say, and first refusals.
use Rattle.std.proofs.Common.{◌≡◌, ◌∙◌, inl, inr, ℕ, ◌<◌, ◌≤◌, Bool, true, false, List, [], length, sym, ap, arith, eqb-true, eq-eqb}
use Rattle.std.specs.Prelude.{nat_lt, ◌==◌, None, slice_get}
use Rattle.std.proofs.lemmas.List.{nil_from_length}
use Rattle.std.proofs.lemmas.Bool.Decides.{nat_tests}
use Rattle.std.proofs.lemmas.Option.{slice_get_cases}

pub is_less : (x y : ℕ) → x < y → nat_lt x y ≡ true
is_less x y h = grind (arith, nat_tests)

-- if no item is read there is none
pub none_there : {A : Type 0} (xs : List A) (n : ℕ) → slice_get xs n ≡ None → length xs ≤ n
none_there xs n e = elim (slice_get_cases xs n).1 [ inl s ↦ absurd (let f = s.2 in cc) | inr s ↦ s.0 ]

-- numbers of which a test says that there are none
pub none_listed : (named seen : List ℕ) (b : Bool) → named ≡ seen → b ≡ (length named == 0) → b ≡ true → seen ≡ []
none_listed named seen b same test is = sym same ∙ nil_from_length named (eqb-true (length named) 0 (sym test ∙ is))

-- and that there are some
pub some_listed : (named seen : List ℕ) (b : Bool) → named ≡ seen → b ≡ (length named == 0) → b ≡ false → seen ≡ [] → ⊥
some_listed named seen b same test is none =
    let n : length named ≡ 0 = ap (λ (xs : List ℕ). length xs) (same ∙ none) in
    let e : (length named == 0) ≡ true = eq-eqb (length named) 0 n in
    absurd cc
