-- A key lies in one of the ring's partitions, and in one chunk of 16.
use Rattle.std.proofs.Common.{◌≡◌, ℕ, zero, suc, ◌+◌, ◌-◌, ◌^◌, ◌<◌, true, List, [], ◌∷◌, ◌++◌, get_or, sym, subst, arith}
use Rattle.std.specs.Prelude.{◌%◌}
use Rattle.std.specs.Int.{w32, w128, to_le_bytes, from_be_bytes}
use Rattle.md5.specs.Md5.{md5, digest_bytes}
use Rattle.ring_names.specs.Space.{is_space}
use Rattle.ring_space.specs.Place.{place_of, log2}
use Rattle.ring_space.proofs.Bits.{bits-most, space-is, front}

-- each item is a byte
abbrev Bytes : List ℕ → Type 0
Bytes xs = (i : ℕ) → get_or xs i 0 < 256

-- so is each of two lists together
bytes_both : (xs ys : List ℕ) → Bytes xs → Bytes ys → Bytes (xs ++ ys)
bytes_both [] ys a b i = b i
bytes_both (x ∷ xs) ys a b zero = a zero
bytes_both (x ∷ xs) ys a b (suc i) = bytes_both xs ys (λ j. a (suc j)) b i

-- a remainder by 256 is a byte
mod_less : (x : ℕ) → x % 256 < 256
mod_less x = omega arith

-- a word is written in bytes
word_bytes : (n : ℕ) → Bytes (to_le_bytes w32 n)
word_bytes n zero = mod_less n
word_bytes n (suc zero) = mod_less _
word_bytes n (suc (suc zero)) = mod_less _
word_bytes n (suc (suc (suc zero))) = mod_less _
word_bytes n (suc (suc (suc (suc i)))) = omega arith

-- and so is a digest
digest_small : (h : List ℕ) (n : ℕ) → Bytes (digest_bytes h n)
unfolding digest_bytes
digest_small h zero i = omega arith
digest_small h (suc n) i = bytes_both (digest_bytes h n) (to_le_bytes w32 (get_or h n 0)) (digest_small h n) (word_bytes (get_or h n 0)) i

-- sixteen bytes make a number of 128 bits
sixteen : (a b c d e f g h i j k l m n o p : ℕ) → a < 256 → b < 256 → c < 256 → d < 256 → e < 256 → f < 256 → g < 256 → h < 256 → i < 256 → j < 256 → k < 256
    → l < 256 → m < 256 → n < 256 → o < 256 → p < 256
    → from_be_bytes w128 (a ∷ b ∷ c ∷ d ∷ e ∷ f ∷ g ∷ h ∷ i ∷ j ∷ k ∷ l ∷ m ∷ n ∷ o ∷ p ∷ []) < 2 ^ 128
sixteen a b c d e f g h i j k l m n o p a' b' c' d' e' f' g' h' i' j' k' l' m' n' o' p' = omega arith

-- in a list
number_small : (xs : List ℕ) → Bytes xs → from_be_bytes w128 xs < 2 ^ 128
number_small xs s = sixteen (at 0) (at 1) (at 2) (at 3) (at 4) (at 5) (at 6) (at 7) (at 8) (at 9) (at 10) (at 11) (at 12) (at 13) (at 14) (at 15)
    (s 0) (s 1) (s 2) (s 3) (s 4) (s 5) (s 6) (s 7) (s 8) (s 9) (s 10) (s 11) (s 12) (s 13) (s 14) (s 15)
  where
    at : ℕ → ℕ
    at i = get_or xs i 0

-- and in the digest of a key
md5_small : (key : List ℕ) → from_be_bytes w128 (md5 key) < 2 ^ 128
unfolding md5
md5_small key = number_small (md5 key) (digest_small _ 4)

-- so the partition is one of the ring's
pub partition_within : (q : ℕ) (key : List ℕ) → is_space q ≡ true → (place_of q key).partition < q
partition_within q key space =
    let most = bits-most q in
    let all : log2 12 q + (128 - log2 12 q) ≡ 128 = omega arith in
    let below = front (from_be_bytes w128 (md5 key)) (log2 12 q) (128 - log2 12 q)
    (subst (λ m. from_be_bytes w128 (md5 key) < 2 ^ m) (sym all) (md5_small key)) in
    let is = space-is q space in
    omega arith
