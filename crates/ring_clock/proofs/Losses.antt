-- Differences of counters below 2^31 in 32 bits: the top bit tells whether the greater one was taken from the lesser.
use Rattle.std.proofs.Common.{◌↔◌, ℕ, ◌+◌, ◌-◌, ◌%◌, ◌<◌, ◌≤◌, arith}
use Rattle.std.specs.Int.Bits.{bit_or}
use Rattle.std.proofs.lemmas.Nat.{or_lt, le_or_l, le_or_r}

-- the top bit of those gathered stays clear where b is not the lesser
pub no_loss : (lost a b : ℕ) → a < 2147483648 → b < 2147483648 → (bit_or lost ((b + (4294967296 - a)) % 4294967296) < 2147483648) ↔ (lost < 2147483648) × (a ≤ b)
no_loss lost a b low lower =
    let gap : ℕ = (b + (4294967296 - a)) % 4294967296 in (
      λ clear. (omega (arith, le_or_l lost gap), passed (omega (arith, le_or_r lost gap))),
      λ both. or_lt 31 lost gap both.0 (kept both.1),
    )
  where
    passed : (b + (4294967296 - a)) % 4294967296 < 2147483648 → a ≤ b
    passed clear = omega arith

    kept : a ≤ b → (b + (4294967296 - a)) % 4294967296 < 2147483648
    kept le = omega arith
