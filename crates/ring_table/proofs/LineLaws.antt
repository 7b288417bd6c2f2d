-- Limits of a ring's numbers.
use Rattle.std.proofs.Common.{◌≡◌, ℕ, ◌≤◌, true, arith}
use Rattle.std.proofs.lemmas.Grind.{common_steps}
use Rattle.ring_names.specs.Space.{is_space}
use Rattle.ring_table.specs.Valid.{is_loss, is_quorum}

-- no greater number is one
pub space-le : (q : ℕ) → is_space q ≡ true → q ≤ 4096
unfolding is_space
space-le q e = grind (arith, common_steps)

-- no ring may lose more
pub loss-le : (format loss : ℕ) → is_loss format loss ≡ true → loss ≤ 6
loss-le format loss e = grind (arith, common_steps)

pub quorum-parts : (n r w loss : ℕ) → is_quorum n r w loss ≡ true → (r ≤ n) × (w ≤ n)
unfolding is_quorum
quorum-parts n r w loss e = (grind (arith, common_steps), grind (arith, common_steps))
