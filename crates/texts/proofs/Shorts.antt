-- The value of up to 9 digits is below the cap.
use Rattle.std.proofs.Common.{◌≡◌, ℕ, zero, suc, ◌+◌, ◌-◌, ◌*◌, ◌%◌, ◌<◌, ◌≤◌, ◌∙◌, true, List, [], ◌∷◌, length, get_or, take, refl, arith}
use Rattle.std.specs.Str.{all_ascii_digits}
use Rattle.std.specs.Char.{is_ascii_digit}
use Rattle.std.proofs.lemmas.Bool.{and_parts}
use Rattle.std.proofs.lemmas.Bool.Decides.{nat_tests}
use Rattle.std.proofs.lemmas.List.{length-take, take_more}
use Rattle.texts.specs.Number.{value_from, capped}
use Rattle.texts.proofs.NumberLaws.{value-push}

-- the greatest value of k digits behind those of n
most : ℕ → ℕ → ℕ
most zero n = n
most (suc k) n = most k (10 * n + 9)

more : (k a b : ℕ) → a ≤ b → most k a ≤ most k b
unfolding most
more zero a b l = l
more (suc k) a b l = more k (10 * a + 9) (10 * b + 9) (omega arith)

through : (a b c : ℕ) → a ≤ b → b ≤ c → a ≤ c
through a b c l m = omega arith

digit : (c : ℕ) → is_ascii_digit c ≡ true → c - 48 ≤ 9
digit c e = grind (arith, nat_tests)

value-most : (ds : List ℕ) (n : ℕ) → all_ascii_digits ds ≡ true → value_from n ds ≤ most (length ds) n
unfolding most
value-most [] n e = omega arith
value-most (c ∷ cs) n e =
    let parts = and_parts (is_ascii_digit c) (all_ascii_digits cs) e in
    let small = digit c parts.0 in
    through _ _ _ (value-most cs (10 * n + (c - 48)) parts.1) (more (length cs) (10 * n + (c - 48)) (10 * n + 9) (omega arith))

few : (k : ℕ) → k ≤ 9 → most k 0 ≤ 999999999
unfolding most
few zero l = omega arith
few (suc zero) l = omega arith
few (suc (suc zero)) l = omega arith
few (suc (suc (suc zero))) l = omega arith
few (suc (suc (suc (suc zero)))) l = omega arith
few (suc (suc (suc (suc (suc zero))))) l = omega arith
few (suc (suc (suc (suc (suc (suc zero)))))) l = omega arith
few (suc (suc (suc (suc (suc (suc (suc zero))))))) l = omega arith
few (suc (suc (suc (suc (suc (suc (suc (suc zero)))))))) l = omega arith
few (suc (suc (suc (suc (suc (suc (suc (suc (suc zero))))))))) l = omega arith
few (suc (suc (suc (suc (suc (suc (suc (suc (suc (suc k)))))))))) l = absurd (omega arith)

-- up to 9 digits
pub short-value : (ds : List ℕ) → all_ascii_digits ds ≡ true → length ds ≤ 9 → value_from 0 ds ≤ 999999999
short-value ds e l = through _ _ _ (value-most ds 0 e) (few (length ds) l)

-- so the cap changes nothing
pub short-capped : (ds : List ℕ) → all_ascii_digits ds ≡ true → length ds ≤ 9 → value_from 0 ds ≡ capped (value_from 0 ds)
short-capped ds e l = let small = short-value ds e l in omega arith

wrap : (v d : ℕ) → v ≤ 999999999 → d ≤ 9 → (v * 10 % 18446744073709551616 + d) % 18446744073709551616 ≡ 10 * v + d
wrap v d l m = omega arith

-- one digit more, where they are no more than 9
pub short-step : (ds : List ℕ) (i v : ℕ) → i < length ds → i + 1 ≤ 9 → all_ascii_digits (take i ds) ≡ true → is_ascii_digit (get_or ds i 0) ≡ true → v ≡ value_from 0 (take i ds) → (v * 10 % 18446744073709551616 + (get_or ds i 0 - 48)) % 18446744073709551616 ≡ value_from 0 (take (i + 1) ds)
short-step ds i v h l e f g =
    let few : length (take i ds) ≤ 9 = let t = length-take i ds in omega arith in
    let small : v ≤ 999999999 = rw g (short-value (take i ds) e few) in
    wrap v (get_or ds i 0 - 48) small (digit (get_or ds i 0) f) ∙ rw (g, take_more ds i 0 h, value-push 0 (take i ds) (get_or ds i 0)) refl
