-- A value is read from just the text that is written of it.
use Rattle.std.proofs.Common.{◌≡◌, ℕ, ◌+◌, ◌*◌, ◌/◌, ◌%◌, ◌<◌, ◌≤◌, Bool, true, false, not, ◌&&◌, ◌||◌, eqb, nat_le, List, [], ◌∷◌, ◌++◌, length, Ok}
use Rattle.std.proofs.Common.{refl, ap, ◌∙◌, arith, inl, inr}
use Rattle.std.specs.List.{flat_map, AllByRecursion}
use Rattle.std.proofs.lemmas.Bool.{agree_below_at, and_parts, or_cases, eqb-true, leb-true, le-leb}
use Rattle.std.proofs.lemmas.List.Concat.{flat_map-cons}
use Rattle.texts.specs.Laws.{IsPlain}
use Rattle.script_text.proofs.Terms.{is_digit, digit_value, are_pairs, bytes_of, is_value_text, value_of, value_text, judge_value, IsBytes}
use Rattle.script_text.specs.Spelling.{digit_text, byte_text}
use Rattle.script_text.proofs.DigitLaws.{few_bytes}

-- ---- a digit

-- a number below 16 is written as the digit that counts it, which is not a space
digit-is : (d : ℕ) → d < 16 → (is_digit (digit_text d) ≡ true) × (digit_value (digit_text d) ≡ d) × (32 < digit_text d)
digit-is d lt = (
  agree_below_at (λ x. is_digit (digit_text x)) (λ x. true) 16 d refl lt,
  eqb-true _ _ (agree_below_at (λ x. eqb (digit_value (digit_text x)) x) (λ x. true) 16 d refl lt),
  leb-true 33 (digit_text d) (agree_below_at (λ x. nat_le 33 (digit_text x)) (λ x. true) 16 d refl lt),
)

-- no digit comes after `f`
few-digit : (c : ℕ) → is_digit c ≡ true → c < 103
few-digit c e = elim (or_cases (nat_le 48 c && nat_le c 57) (nat_le 97 c && nat_le c 102) e) [
  | inl h ↦ omega (arith, leb-true c 57 (and_parts (nat_le 48 c) (nat_le c 57) h).1)
  | inr h ↦ omega (arith, leb-true c 102 (and_parts (nat_le 97 c) (nat_le c 102) h).1)
]

-- if the first test is false or the second is true, and the first is true, the second is
either-of : (a b : Bool) → a ≡ true → (not a || b) ≡ true → b ≡ true
either-of true b e f = f
either-of false b e f = absurd cc

-- what is written of what a digit counts is the digit, and a digit counts at most 15
digit-counts : (c : ℕ) → is_digit c ≡ true → (digit_text (digit_value c) ≡ c) × (digit_value c ≤ 15)
digit-counts c e = (
  eqb-true _ _ (either-of (is_digit c) _ e (agree_below_at (λ x. not (is_digit x) || eqb (digit_text (digit_value x)) x) (λ x. true) 103 c refl (few-digit c e))),
  leb-true (digit_value c) 15 (either-of (is_digit c) _ e (agree_below_at (λ x. not (is_digit x) || nat_le (digit_value x) 15) (λ x. true) 103 c refl (few-digit c e))),
)

-- ---- bytes

-- what is written of bytes
record AreSpelled (digits value : List ℕ) : Type 0 where
  pub pairs : are_pairs digits ≡ true
  pub bytes : bytes_of digits ≡ value
  pub twice : length digits ≡ length value + length value
  pub plain : IsPlain digits

-- one byte more in front
two-digits : (b : ℕ) (digits bytes : List ℕ) → b < 256 → AreSpelled digits bytes → AreSpelled (byte_text b ++ digits) (b ∷ bytes)
two-digits b digits bytes lt p =
    let high = digit-is (b / 16) (omega arith) in
    let low = digit-is (b % 16) (omega arith) in
    let one : 16 * (b / 16) + b % 16 ≡ b = omega arith in
    let more = p.twice in
    record {
      pairs = rw (high.0, low.0) p.pairs;
      bytes = rw (high.1, low.1, one, p.bytes) refl;
      twice = omega arith;
      plain = (high.2, (low.2, p.plain));
    }

-- what is written of bytes is pairs of digits, which spell them
bytes-spelled : (bytes : List ℕ) → AllByRecursion (λ b. b < 256) bytes → AreSpelled (flat_map byte_text bytes) bytes
bytes-spelled [] p = record { pairs = refl; bytes = refl; twice = refl; plain = tt }
bytes-spelled (b ∷ bytes) p = rw (flat_map-cons byte_text b bytes) (two-digits b (flat_map byte_text bytes) bytes p.0 (bytes-spelled bytes p.1))

-- pairs of digits are what is written of the bytes that they spell
digits-of : (digits : List ℕ) → are_pairs digits ≡ true → (digits ≡ flat_map byte_text (bytes_of digits)) × AllByRecursion (λ b. b < 256) (bytes_of digits)
digits-of [] e = (refl, tt)
digits-of (a ∷ []) e = absurd cc
digits-of (a ∷ b ∷ cs) e =
    let p = and_parts (is_digit a && is_digit b) (are_pairs cs) e in
    let q = and_parts (is_digit a) (is_digit b) p.0 in
    let high = digit-counts a q.0 in
    let low = digit-counts b q.1 in
    let n = 16 * digit_value a + digit_value b in
    let rest = digits-of cs p.1 in
    let first : n / 16 ≡ digit_value a = omega arith in
    let second : n % 16 ≡ digit_value b = omega arith in (
      rw (flat_map-cons byte_text n (bytes_of cs), first, second, high.0, low.0) (ap (λ (ds : List ℕ). a ∷ b ∷ ds) rest.0),
      (omega arith, rest.1),
    )

-- what is written of a value is plain
pub value-plain : (value : List ℕ) → IsBytes value → IsPlain (value_text value)
value-plain value p = (omega arith, (bytes-spelled value p.bytes).plain)

-- ---- a value

-- a value's text is what is written of the value that it spells
pub text-is : (field : List ℕ) → is_value_text field ≡ true → (field ≡ value_text (value_of field)) × IsBytes (value_of field)
text-is [] e = absurd cc
text-is (x ∷ digits) e =
    let p = and_parts (eqb x 120 && nat_le (length digits) 2048) (are_pairs digits) e in
    let q = and_parts (eqb x 120) (nat_le (length digits) 2048) p.0 in
    let d = digits-of digits p.1 in (
      ap (λ (c : ℕ). c ∷ digits) (eqb-true x 120 q.0) ∙ ap (λ (ds : List ℕ). 120 ∷ ds) d.0,
      record { few = few_bytes digits (leb-true (length digits) 2048 q.1); bytes = d.1 },
    )

-- a value's text is judged to be the value
pub value-given : (k : ℕ) (value : List ℕ) → IsBytes value → judge_value k (value_text value) ≡ Ok value
value-given k value p =
    let s = bytes-spelled value p.bytes in
    let few = leb-true (length value) 1024 p.few in
    let twice = s.twice in
    let short : nat_le (length (flat_map byte_text value)) 2048 ≡ true = le-leb (length (flat_map byte_text value)) 2048 (omega arith) in
    rw (short, s.pairs, s.bytes) refl
