-- The slots that hold a put, as bits.
use Rattle.std.proofs.Common.{◌≡◌, inl, inr, ◌∙◌, ℕ, ◌+◌, ◌*◌, ◌^◌, ◌%◌, ◌<◌, true, false, refl, subst, arith, lt-ltb}
use Rattle.std.specs.Prelude.{◌==◌, ◌&&◌, nat_lt, bit_or}
use Rattle.std.specs.Int.{w32, bit_at}
use Rattle.std.proofs.lemmas.Bool.Decides.{eqb_tells, nat_tests}
use Rattle.std.proofs.lemmas.Nat.Bits.{bit_at_set_same, bit_at_set_other}
use Rattle.ring_names.proofs.Logic.{lt_self}
use Rattle.plan_runs.specs.Versions.{put_slot, is_held}
use Rattle.plan_runs.specs.World.{World as TheWorld}
use Rattle.ring_core.specs.declared.world.World.{World}
use Rattle.ring_core.specs.World.{ring_of, plan_of, Meets}

-- of the indexes below n just those of slots that hold the put have their bits set
abbrev pub Masked : World → ℕ → ℕ → ℕ → Type 0
Masked a put mask n = (w : TheWorld) → Meets a w → (i : ℕ) → i < 32 → (bit_at mask i == 1) ≡ (nat_lt i n && is_held (ring_of a) (plan_of a) w put (put_slot (ring_of a) w put i))

less_more : (i n : ℕ) → (i == n) ≡ false → nat_lt i (n + 1) ≡ nat_lt i n
less_more i n e = grind (arith, nat_tests)

within_more : (n : ℕ) → nat_lt n (n + 1) ≡ true
within_more n = lt-ltb n (n + 1) (omega arith)

-- the slot of index n holds it
pub mask_with : (a : World) (put mask n : ℕ) → n < 32 → ((w : TheWorld) → Meets a w → is_held (ring_of a) (plan_of a) w put (put_slot (ring_of a) w put n) ≡ true)
    → Masked a put mask n → Masked a put (bit_or mask (1 * 2 ^ n % 2 ^ 32)) (n + 1)
mask_with a put mask n l held before w m i less = elim (eqb_tells i n) [
  | inl t ↦ (let e : i ≡ n = t.1 in let b = bit_at_set_same w32 mask n l in rw (e, b, within_more n, held w m) refl)
  | inr t ↦ (let b = bit_at_set_other w32 mask n l i t.1 in rw (b, less_more i n t.0) (before w m i less))
]

-- it does not hold it
pub mask_without : (a : World) (put mask n : ℕ) → ((w : TheWorld) → Meets a w → is_held (ring_of a) (plan_of a) w put (put_slot (ring_of a) w put n) ≡ false)
    → Masked a put mask n → Masked a put mask (n + 1)
mask_without a put mask n held before w m i less = elim (eqb_tells i n) [
  | inl t ↦ (let e : i ≡ n = t.1 in let b = before w m n (subst (λ (z : ℕ). z < 32) e less) in rw (e, within_more n, held w m) (b ∙ rw (lt_self n) refl))
  | inr t ↦ rw (less_more i n t.0) (before w m i less)
]
