-- Plainly spelled parts at the front of a text.
use Rattle.std.proofs.Common.{◌≡◌, ℕ, ◌-◌, ◌≤◌, true, List, ◌++◌, length, take, drop, refl, sym, ap, ◌∙◌, arith}
use Rattle.std.specs.Str.{all_ascii_digits}
use Rattle.std.specs.Fmt.{decimal}
use Rattle.std.proofs.lemmas.List.{take-append-drop, take_rest, length-take}
use Rattle.texts.specs.Number.{value_from, is_number}
use Rattle.texts.proofs.Decimals.{decimal-value}
use Rattle.texts.proofs.Shorts.{short-value}

-- a text is what is before a place and what is after it
pub two-sides : (bs : List ℕ) (i : ℕ) → bs ≡ take i bs ++ take (length bs - i) (drop i bs)
two-sides bs i = sym (rw (take_rest bs i) (take-append-drop i bs))

-- up to 9 digits have a value below a billion
pub front-small : (text : List ℕ) (i v : ℕ) → i ≤ 9 → all_ascii_digits (take i text) ≡ true → v ≡ value_from 0 (take i text) → v ≤ 999999999
front-small text i v few digits e = rw e (short-value (take i text) digits (let l = length-take i text in omega arith))

-- a number of up to 9 digits that is at the front
pub number-front : (text : List ℕ) (i v : ℕ) → i ≤ 9 → all_ascii_digits (take i text) ≡ true → v ≡ value_from 0 (take i text) → is_number (take i text) ≡ true
    → text ≡ decimal v ++ take (length text - i) (drop i text)
number-front text i v few digits e number =
    let small = front-small text i v few digits e in
    let spelled : take i text ≡ decimal v = decimal-value (take i text) v (rw (number, e) refl) (omega arith) in
    two-sides text i ∙ ap (λ (w : List ℕ). w ++ take (length text - i) (drop i text)) spelled
