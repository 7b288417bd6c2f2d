-- The sets of numbers below 16, kept by bits.
use Rattle.std.proofs.Common.{◌≡◌, inl, inr, ℕ, ◌<◌, refl, lt-ltb}
use Rattle.std.specs.Prelude.{◌==◌, ◌||◌}
use Rattle.std.specs.Int.{w16}
use Rattle.std.proofs.lemmas.Bool.Decides.{eqb_tells}
use Rattle.std.proofs.lemmas.Nat.Bits.{bit_at_set_same, bit_at_set_other}
use Rattle.store_parts.specs.declared.marks.Marks.{Marks}
use Rattle.store_parts.specs.Marks.{has_mark, with_mark}

-- the set with the number has it, and what it had
pub has_with : (marks : Marks) (n m : ℕ) → n < 16 → has_mark (with_mark marks n) m ≡ (m == n) || has_mark marks m
has_with marks n m l = elim (eqb_tells m n) [
  | inl t ↦ (let e : m ≡ n = t.1 in let a = lt-ltb n 16 l in let b = bit_at_set_same w16 marks.bits n l in rw (t.0, e, a, b) refl)
  | inr t ↦ (let b = bit_at_set_other w16 marks.bits n l m t.1 in rw (t.0, b) refl)
]
