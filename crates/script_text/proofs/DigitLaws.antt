-- Which digits pairs of digits are, and which bytes they spell.
use Rattle.std.proofs.Common.{◌≡◌, ℕ, zero, suc, ◌+◌, ◌*◌, ◌/◌, ◌%◌, ◌<◌, ◌≤◌, nat_le, eqb, Bool, true, false, ◌&&◌, List, [], ◌∷◌, length, get_or, refl, sym, ◌∙◌, arith}
use Rattle.std.specs.List.{list_all}
use Rattle.std.proofs.lemmas.Bool.{le-leb, and_parts, true_from_ne_false}
use Rattle.std.proofs.lemmas.List.Folds.{list_all_at}
use Rattle.script_text.specs.Digits.{is_digit, digit_value, are_pairs, bytes_of}

moved : (x y even rest : Bool) → (x && y && (even && rest)) ≡ (even && (x && (y && rest)))
moved true true even rest = refl
moved true false true rest = refl
moved true false false rest = refl
moved false y true rest = refl
moved false y false rest = refl

-- pairs of digits are an even number of digits
pub pairs_are : (ds : List ℕ) → are_pairs ds ≡ (eqb (length ds % 2) 0 && list_all is_digit ds)
pairs_are [] = refl
pairs_are (a ∷ []) = refl
pairs_are (a ∷ b ∷ cs) =
    let even : length (a ∷ b ∷ cs) % 2 ≡ length cs % 2 = omega arith in
    rw (pairs_are cs, even) (moved (is_digit a) (is_digit b) (eqb (length cs % 2) 0) (list_all is_digit cs))

-- each of them is a digit
pub digit-at : (ds : List ℕ) (k : ℕ) → are_pairs ds ≡ true → k < length ds → is_digit (get_or ds k 0) ≡ true
digit-at ds k e lt =
    let all : list_all is_digit ds ≡ true = (and_parts (eqb (length ds % 2) 0) (list_all is_digit ds) (sym (pairs_are ds) ∙ e)).1 in
    true_from_ne_false (is_digit (get_or ds k 0)) (λ h. let no = sym all ∙ list_all_at is_digit ds k 0 lt h in absurd cc)

-- two digits spell a byte
pub bytes-half : (ds : List ℕ) → length (bytes_of ds) ≡ length ds / 2
bytes-half [] = refl
bytes-half (a ∷ []) = refl
bytes-half (a ∷ b ∷ cs) = let h = bytes-half cs in omega (arith, h)

pub byte-at : (ds : List ℕ) (i : ℕ) → 2 * i + 1 < length ds → get_or (bytes_of ds) i 0 ≡ 16 * digit_value (get_or ds (2 * i) 0) + digit_value (get_or ds (2 * i + 1) 0)
byte-at [] i lt = absurd (omega (arith, lt))
byte-at (a ∷ []) i lt = absurd (omega (arith, lt))
byte-at (a ∷ b ∷ cs) zero lt = refl
byte-at (a ∷ b ∷ cs) (suc i) lt =
    let one : 2 * suc i ≡ suc (suc (2 * i)) = omega arith in
    let two : 2 * suc i + 1 ≡ suc (suc (2 * i + 1)) = omega arith in
    rw (two, one) (byte-at cs i (omega (arith, lt)))

-- pairs of few digits spell a value
pub few_bytes : (ds : List ℕ) → length ds ≤ 2048 → nat_le (length (bytes_of ds)) 1024 ≡ true
few_bytes ds few = let h = bytes-half ds in le-leb (length (bytes_of ds)) 1024 (omega (arith, h, few))
