-- A first field that is not a number.
use Rattle.std.proofs.Common.{◌≡◌, ℕ, zero, suc, ◌<◌, Bool, true, false, cond, ◌&&◌, eqb, List, [], ◌∷◌, length, get_or, refl, ap, subst, ◌∙◌, arith}
use Rattle.std.specs.List.{onto_first}
use Rattle.std.specs.Str.{all_ascii_digits}
use Rattle.std.specs.Char.{is_ascii_digit}
use Rattle.std.proofs.lemmas.Bool.{eqb-true}
use Rattle.std.proofs.lemmas.List.Splits.{slice_split-cons_no}
use Rattle.ring_names.proofs.Logic.{and_false}
use Rattle.texts.specs.Parts.{fields_of}
use Rattle.texts.specs.Number.{value_from, is_number}
use Rattle.texts.specs.Numbers.{numbers_of, beyond}
use Rattle.texts.proofs.Cuts.{first_part}

-- a first field that is not a number
pub none_in_front : (bs x : List ℕ) (xs : List (List ℕ)) → fields_of bs ≡ x ∷ xs → is_number x ≡ false → numbers_of (fields_of bs) ≡ []
none_in_front bs x xs e bad = rw (e, bad) refl

-- the first field has a byte that is not a digit
OddField : List ℕ → Type 0
OddField bs = (x : List ℕ) × (xs : List (List ℕ)) × (fields_of bs ≡ x ∷ xs) × (all_ascii_digits x ≡ false)

odd_field : (bs : List ℕ) (i : ℕ) → i < length bs → ((k : ℕ) → k < i → eqb (get_or bs k 0) 32 ≡ false) → eqb (get_or bs i 0) 32 ≡ false → is_ascii_digit (get_or bs i 0) ≡ false → OddField bs
unfolding OddField
odd_field [] i l none space digit = absurd (omega arith)
odd_field (b ∷ bs) zero l none space digit =
    let s = first_part (λ c. eqb c 32) bs in
    (b ∷ s.0, s.1, slice_split-cons_no (λ c. eqb c 32) b bs space ∙ ap (onto_first b) s.2, ap (λ d. d && all_ascii_digits s.0) digit)
odd_field (b ∷ bs) (suc i) l none space digit =
    let s = odd_field bs i (omega arith) (λ k h. none (suc k) (omega arith)) space digit in
    (b ∷ s.0, s.1, slice_split-cons_no (λ c. eqb c 32) b bs (none 0 (omega arith)) ∙ ap (onto_first b) s.2, ap (λ d. is_ascii_digit b && d) s.3 ∙ and_false (is_ascii_digit b))

-- so the field is not a number
pub odd_in_front : (bs : List ℕ) (i : ℕ) → i < length bs → ((k : ℕ) → k < i → eqb (get_or bs k 0) 32 ≡ false) → eqb (get_or bs i 0) 32 ≡ false → is_ascii_digit (get_or bs i 0) ≡ false → numbers_of (fields_of bs) ≡ []
unfolding OddField
odd_in_front bs i l none space digit =
    let s = odd_field bs i l none space digit in
    none_in_front bs s.0 s.1 s.2 (rw s.3 refl)

-- a digit is not a space
pub digit_is_no_space : (b : ℕ) → is_ascii_digit b ≡ true → eqb b 32 ≡ false
digit_is_no_space b digit = by (eqb b 32) refl
  where
    by : (t : Bool) → eqb b 32 ≡ t → t ≡ false
    by true e = absurd (let f : is_ascii_digit 32 ≡ true = subst (λ (c : ℕ). is_ascii_digit c ≡ true) (eqb-true b 32 e) digit in cc)
    by false e = refl

-- if no number comes first, none is taken
pub none_beyond : (fields : List (List ℕ)) → numbers_of fields ≡ [] → beyond fields ≡ fields
none_beyond [] none = refl
none_beyond (x ∷ xs) none = by (is_number x) none
  where
    by : (t : Bool) → cond t (value_from 0 x ∷ numbers_of xs) [] ≡ [] → cond t (beyond xs) (x ∷ xs) ≡ x ∷ xs
    by true none = absurd cc
    by false none = refl
