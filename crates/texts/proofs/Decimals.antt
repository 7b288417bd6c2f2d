-- A number is read from just the decimal text that is written of it.
use Rattle.std.proofs.Common.{◌≡◌, ℕ, zero, suc, ◌<◌, ◌≤◌, ◌^◌, Bool, true, false, cond, nat_lt, eqb, ◌||◌, List, [], ◌∷◌, length, get_or, Option, Some, None, Ok, Err, refl, sym, ap, ◌∙◌, arith, rules}
use Rattle.std.specs.Str.{all_ascii_digits}
use Rattle.std.specs.Fmt.{decimal}
use Rattle.std.proofs.lemmas.Str.Parse.{IsNumeralModel, numerals_by_fold}
use Rattle.std.proofs.lemmas.Fmt.{decimal-digits_value, digits_decimal, digits_value-decimal, first_decimal, decimal_digit}
use Rattle.std.proofs.lemmas.Bool.{lt-ltb, eqb-true, ltb-false, le-ltb, and_parts}
use Rattle.ring_names.specs.declared.refusal.Refusal.TheVariants.{TooLarge}
use Rattle.ring_names.proofs.Logic.{cond_some}
use Rattle.texts.specs.Number.{value_from, is_number, decimal_value}
use Rattle.texts.specs.Judging.{limited, number_at}
use Rattle.texts.specs.Laws.{IsItem}
use Rattle.texts.proofs.Items.{IsItem-field, ok_is}

pub own : IsNumeralModel (λ ds. all_ascii_digits ds ≡ true) (value_from 0)
own = numerals_by_fold _ (search rules) value_from (search rules)

or_is : (a b : Bool) → (a || b) ≡ true → a ≡ false → b ≡ true
or_is true b e f = absurd cc
or_is false b e f = e

-- a field that spells n is n in decimal
pub decimal-value : (f : List ℕ) (n : ℕ) → decimal_value f ≡ Some n → n < 2 ^ 64 → f ≡ decimal n
decimal-value f n e small =
    let s = cond_some (is_number f) (value_from 0 f) n e in
    let parts = and_parts (all_ascii_digits f) (nat_lt 48 (get_or f 0 0) || eqb (length f) 1) s.0 in
    let lone : get_or f 0 0 ≡ 48 → length f ≡ 1 = λ z. eqb-true _ _ (or_is (nat_lt 48 (get_or f 0 0)) (eqb (length f) 1) parts.1 (rw z refl)) in
    let filled : 0 < length f = non_empty f parts.1 in
    let fits : value_from 0 f < 2 ^ 64 = rw s.1 small in
    sym (decimal-digits_value own f parts.0 filled lone fits) ∙ ap decimal s.1
  where
    non_empty : (ds : List ℕ) → (nat_lt 48 (get_or ds 0 0) || eqb (length ds) 1) ≡ true → 0 < length ds
    non_empty [] h = absurd cc
    non_empty (d ∷ ds) h = omega arith

leads : (n : ℕ) → n < 2 ^ 64 → (nat_lt 48 (get_or (decimal n) 0 0) || eqb (length (decimal n)) 1) ≡ true
leads zero small = rw (decimal_digit 0 (omega arith)) refl
leads (suc n) small = ap (λ b. b || eqb (length (decimal (suc n))) 1) (lt-ltb 48 (get_or (decimal (suc n)) 0 0) (first_decimal (suc n) (omega arith) small))

pub value-decimal : (n : ℕ) → n < 2 ^ 64 → decimal_value (decimal n) ≡ Some n
value-decimal n small = rw (digits_decimal own n small, leads n small, digits_value-decimal own n small) refl

limited_by : (k limit n v : ℕ) (b : Bool) → nat_lt limit n ≡ b → cond b (Err (TooLarge k)) (Ok n) ≡ Ok v → (n ≡ v) × (n ≤ limit)
limited_by k limit n v true h e = absurd cc
limited_by k limit n v false h e = (ok_is n v e, ltb-false limit n h)

pub limited_is : (k limit v : ℕ) (o : Option ℕ) → limited k limit o ≡ Ok v → (o ≡ Some v) × (v ≤ limit)
limited_is k limit v None e = absurd cc
limited_is k limit v (Some n) e =
    let l = limited_by k limit n v (nat_lt limit n) refl e in
    (ap (λ x. Some x) l.0, rw (← l.0) l.1)

pub IsItem-number : (k limit : ℕ) → limit < 2 ^ 64 → IsItem (number_at k limit) (λ n. decimal n ∷ []) (λ n. n ≤ limit)
IsItem-number k limit wide = IsItem-field k (λ f. limited k limit (decimal_value f)) decimal (λ n. n ≤ limit)
    (λ f v e. let l = limited_is k limit v (decimal_value f) e in (decimal-value f v l.0 (omega arith), l.1))
    (λ v le. let t : nat_lt limit v ≡ false = le-ltb limit v le in rw (value-decimal v (omega arith), t) refl)
