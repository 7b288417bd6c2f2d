-- How many bits tell partitions apart, and shares of a number with 128 bits.
use Rattle.std.proofs.Common.{◌≡◌, inl, inr, ℕ, zero, suc, ◌+◌, ◌-◌, ◌*◌, ◌/◌, ◌^◌, ◌<◌, ◌≤◌, Bool, true, false, List, [], ◌∷◌, refl, sym, subst, arith}
use Rattle.std.specs.Prelude.{◌==◌, ◌||◌, if◌then◌else◌}
use Rattle.std.specs.List.{list_all}
use Rattle.std.proofs.lemmas.Bool.{and_parts, ne_eqb}
use Rattle.std.proofs.lemmas.Bool.Decides.{eqb_tells, nat_tests}
use Rattle.std.proofs.lemmas.Nat.{pow-add}
use Rattle.std.proofs.lemmas.Grind.{pow_more}
use Rattle.std.proofs.Math.Nat.{div-div-eq-div-mul, mul-div_cancel, div-lt_iff_lt-mul}
use Rattle.ring_names.specs.Lists.{has}
use Rattle.ring_names.specs.Space.{spaces, is_space}
use Rattle.ring_space.specs.Place.{log2}

least : (b : Bool) (m n : ℕ) → m ≤ n → (if b then suc n else m) ≤ suc n
least true m n h = omega arith
least false m n h = omega arith

log2-most : (n q : ℕ) → log2 n q ≤ n
unfolding log2
log2-most zero q = omega arith
log2-most (suc n) q = least (q == 2 ^ suc n) (log2 n q) n (log2-most n q)

pub bits-most : (q : ℕ) → log2 12 q ≤ 12
bits-most q = log2-most 12 q

-- whether the number is the power of two of its bits
is_power : ℕ → Bool
is_power q = q == 2 ^ log2 12 q

power_among : (q : ℕ) (xs : List ℕ) → has q xs ≡ true → list_all is_power xs ≡ true → is_power q ≡ true
power_among q [] h e = absurd cc
power_among q (x ∷ xs) h e = elim (eqb_tells q x) [
  | inl t ↦ rw t.1 (and_parts (is_power x) (list_all is_power xs) e).0
  | inr t ↦ power_among q xs (subst (λ b. (b || has q xs) ≡ true) (ne_eqb q x t.1) h) (and_parts (is_power x) (list_all is_power xs) e).1
]

powers : list_all is_power spaces ≡ true
unfolding is_power log2
powers = refl

power-is : (q : ℕ) → is_power q ≡ true → q ≡ 2 ^ log2 12 q
unfolding is_power
power-is q e = grind (arith, nat_tests)

pub space-is : (q : ℕ) → is_space q ≡ true → q ≡ 2 ^ log2 12 q
unfolding is_space
space-is q e = power-is q (power_among q spaces e powers)

pub power-some : (b : ℕ) → 0 < 2 ^ b
power-some zero = omega arith
power-some (suc b) =
    let before = power-some b in
    let more = pow_more 2 b in
    omega arith

pub power-le : (b k : ℕ) → b ≤ k → 2 ^ b ≤ 2 ^ k
power-le b k h =
    let parts = pow-add 2 b (k - b) in
    let all : b + (k - b) ≡ k = omega arith in
    let some = power-some (k - b) in
    let whole : 2 ^ k ≡ 2 ^ b * 2 ^ (k - b) = subst (λ m. 2 ^ m ≡ 2 ^ b * 2 ^ (k - b)) all parts in
    grind arith

-- a number of k bits in as many shares as b bits tell apart
pub width : (q k b : ℕ) → b ≤ k → q ≡ 2 ^ b → 2 ^ k / q ≡ 2 ^ (k - b)
width q k b h e =
    let parts = pow-add 2 (k - b) b in
    let all : (k - b) + b ≡ k = omega arith in
    let whole : 2 ^ k ≡ 2 ^ (k - b) * 2 ^ b = subst (λ m. 2 ^ m ≡ 2 ^ (k - b) * 2 ^ b) all parts in
    rw (e, whole) (mul-div_cancel (2 ^ (k - b)) (power-some b))

-- a number of k + j bits, without the last j
pub front : (d k j : ℕ) → d < 2 ^ (k + j) → d / 2 ^ j < 2 ^ k
front d k j h = (div-lt_iff_lt-mul {k = 2 ^ j} {x = d} {y = 2 ^ k} (power-some j)).1 (rw (sym (pow-add 2 k j)) h)

-- and then without four more
pub four-less : (d j : ℕ) → d / 2 ^ j / 16 ≡ d / 2 ^ (j + 4)
four-less d j =
    let split = pow-add 2 j 4 in
    rw split (div-div-eq-div-mul d (2 ^ j) 16)
