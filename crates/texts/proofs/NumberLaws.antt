-- Reading a number digit by digit.
use Rattle.std.proofs.Common.{◌≡◌, ℕ, ◌+◌, ◌-◌, ◌*◌, ◌<◌, Bool, true, false, ◌&&◌, List, [], ◌∷◌, ◌++◌, length, get_or, take, min, refl, sym, ap, ◌∙◌, arith}
use Rattle.std.specs.Str.{all_ascii_digits}
use Rattle.std.specs.Char.{is_ascii_digit}
use Rattle.std.proofs.lemmas.List.{take_more}
use Rattle.ring_names.proofs.Logic.{and_true}
use Rattle.texts.specs.Number.{value_from, capped}

pub value-push : (n : ℕ) (ds : List ℕ) (c : ℕ) → value_from n (ds ++ c ∷ []) ≡ 10 * value_from n ds + (c - 48)
value-push n [] c = refl
value-push n (d ∷ ds) c = value-push (10 * n + (d - 48)) ds c

and-assoc : (a b c : Bool) → ((a && b) && c) ≡ (a && (b && c))
and-assoc true b c = refl
and-assoc false b c = refl

pub digits-push : (ds : List ℕ) (c : ℕ) → all_ascii_digits (ds ++ c ∷ []) ≡ (all_ascii_digits ds && is_ascii_digit c)
digits-push [] c = and_true (is_ascii_digit c)
digits-push (d ∷ ds) c = ap (λ b. is_ascii_digit d && b) (digits-push ds c) ∙ sym (and-assoc (is_ascii_digit d) (all_ascii_digits ds) (is_ascii_digit c))

pub capped-step : (a d : ℕ) → min (10 * min a 4294967296 + d) 4294967296 ≡ min (10 * a + d) 4294967296
capped-step a d = omega arith

-- the value of one more digit
pub value-step : (ds : List ℕ) (i v : ℕ) → i < length ds → v ≡ capped (value_from 0 (take i ds)) → min (10 * v + (get_or ds i 0 - 48)) 4294967296 ≡ capped (value_from 0 (take (i + 1) ds))
value-step ds i v h e = rw (e, capped-step (value_from 0 (take i ds)) (get_or ds i 0 - 48), take_more ds i 0 h, value-push 0 (take i ds) (get_or ds i 0)) refl

pub digits-step : (ds : List ℕ) (i : ℕ) → i < length ds → all_ascii_digits (take i ds) ≡ true → is_ascii_digit (get_or ds i 0) ≡ true → all_ascii_digits (take (i + 1) ds) ≡ true
digits-step ds i h e f = rw (take_more ds i 0 h, digits-push (take i ds) (get_or ds i 0), e, f) refl
