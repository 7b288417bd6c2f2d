-- The test of succession tells succession, and the test of what is held what is held.
use Rattle.std.proofs.Common.{◌≡◌, ◌⊎◌, inl, inr, ℕ, zero, suc, ◌<◌, ◌≤◌, Bool, true, List, length, refl, subst, arith, ltb-true, eqb-true, eq-eqb}
use Rattle.std.specs.Prelude.{◌&&◌, ◌||◌, ◌==◌, nat_lt}
use Rattle.std.specs.Str.{bytes_eq}
use Rattle.ring_names.specs.declared.ids.Slot.{Slot}
use Rattle.ring_table.specs.Value.{RingValue}
use Rattle.std.proofs.lemmas.Bool.{and_parts, or_right, and_from, or_cases, or_left}
use Rattle.plan_text.specs.declared.step.Planned.{Planned}
use Rattle.plan_runs.specs.World.{World, some_below, key_of_put, writer_of, seen_of}
use Rattle.plan_runs.specs.Succession.{some_replied, is_direct, Succeeds, itself, by, succeeds_within, succeeds}
use Rattle.plan_runs.specs.Versions.{slot_has, IsHeld, is_held}
use Rattle.plan_runs.proofs.Passing.{some_found, some_is}

-- ---- a direct succession

abbrev pub is_known : World → ℕ → ℕ → Bool
is_known w u v = (writer_of w u == writer_of w v) || some_replied w.gets (seen_of w u) v

pub record Direct (w : World) (u v : ℕ) : Type 0 where
  pub less : v < u
  pub exists : u < length w.puts
  pub same_key : bytes_eq (key_of_put w u) (key_of_put w v) ≡ true
  pub known : is_known w u v ≡ true

pub direct_parts : (w : World) (u v : ℕ) → is_direct w u v ≡ true → Direct w u v
direct_parts w u v h =
    let a = and_parts (nat_lt v u && nat_lt u (length w.puts) && bytes_eq (key_of_put w u) (key_of_put w v)) (is_known w u v) h in
    let b = and_parts (nat_lt v u && nat_lt u (length w.puts)) (bytes_eq (key_of_put w u) (key_of_put w v)) a.0 in
    let c = and_parts (nat_lt v u) (nat_lt u (length w.puts)) b.0 in
    record { less = ltb-true v u c.0; exists = ltb-true u (length w.puts) c.1; same_key = b.1; known = a.1 }

-- ---- the test

pub tested : (w : World) (n u v : ℕ) → succeeds_within w n u v ≡ true → Succeeds w u v
tested w zero u v h = subst (λ (z : ℕ). Succeeds w u z) (eqb-true u v h) (itself u)
tested w (suc n) u v h = elim (or_cases (u == v) (some_below u (λ m. is_direct w u m && succeeds_within w n m v)) h) [
  | inl e ↦ subst (λ (z : ℕ). Succeeds w u z) (eqb-true u v e) (itself u)
  | inr f ↦ (
      let s = some_found u (λ m. is_direct w u m && succeeds_within w n m v) f in
      let b = and_parts (is_direct w u s.0) (succeeds_within w n s.0 v) s.2 in
      by u s.0 v b.0 (tested w n s.0 v b.1))
]

pub passes_within : (w : World) (n u v : ℕ) → u ≤ n → Succeeds w u v → succeeds_within w n u v ≡ true
passes_within w zero u v l (itself _) = eq-eqb u u refl
passes_within w (suc n) u v l (itself _) = or_left (u == u) (some_below u (λ m. is_direct w u m && succeeds_within w n m u)) (eq-eqb u u refl)
passes_within w zero u v l (by _ m _ d r) = absurd (let p = (direct_parts w u m d).less in omega arith)
passes_within w (suc n) u v l (by _ m _ d r) =
    let p = (direct_parts w u m d).less in
    or_right (u == v) (some_below u (λ z. is_direct w u z && succeeds_within w n z v))
    (some_is u (λ z. is_direct w u z && succeeds_within w n z v) m p (and_from (is_direct w u m) (succeeds_within w n m v) d (passes_within w n m v (omega arith) r)))

pub succeeds_is : (w : World) (u v : ℕ) → succeeds w u v ≡ true → Succeeds w u v
succeeds_is w u v h = tested w u u v h

pub is_succeeds : (w : World) (u v : ℕ) → Succeeds w u v → succeeds w u v ≡ true
is_succeeds w u v s = passes_within w u u v (omega arith) s

-- a put that succeeds another one exists
pub same_or_put : (w : World) (u v : ℕ) → Succeeds w u v → (u ≡ v) ⊎ (u < length w.puts)
same_or_put w u v (itself _) = inl refl
same_or_put w u v (by _ m _ d r) = inr (direct_parts w u m d).exists

-- it is of the same number or a greater one
pub not_less : (w : World) (u v : ℕ) → Succeeds w u v → v ≤ u
not_less w u v (itself _) = omega arith
not_less w u v (by _ m _ d r) = (let p = (direct_parts w u m d).less in let q = not_less w m v r in omega arith)

pub succeeds_through : (w : World) (u m v : ℕ) → Succeeds w u m → Succeeds w m v → Succeeds w u v
succeeds_through w u m v (itself _) s = s
succeeds_through w u m v (by _ k _ d r) s = by u k v d (succeeds_through w k m v r s)

-- ---- what is held

pub held_is : (ring : RingValue) (plan : List Planned) (w : World) (v : ℕ) (slot : Slot) → is_held ring plan w v slot ≡ true → IsHeld ring plan w v slot
held_is ring plan w v slot h = elim (or_cases (slot_has ring plan w slot v) (some_below (length w.puts) (λ u. succeeds w u v && slot_has ring plan w slot u)) h) [
  | inl f ↦ (v, itself v, f)
  | inr f ↦ (
      let s = some_found (length w.puts) (λ u. succeeds w u v && slot_has ring plan w slot u) f in
      let b = and_parts (succeeds w s.0 v) (slot_has ring plan w slot s.0) s.2 in
      (s.0, succeeds_is w s.0 v b.0, b.1))
]

pub is_held_from : (ring : RingValue) (plan : List Planned) (w : World) (v : ℕ) (slot : Slot) → IsHeld ring plan w v slot → is_held ring plan w v slot ≡ true
is_held_from ring plan w v slot h = elim (same_or_put w h.0 v h.1) [
  | inl e ↦ or_left (slot_has ring plan w slot v) (some_below (length w.puts) (λ u. succeeds w u v && slot_has ring plan w slot u)) (subst (λ (z : ℕ). slot_has ring plan w slot z ≡ true) e h.2)
  | inr l ↦ or_right (slot_has ring plan w slot v) (some_below (length w.puts) (λ u. succeeds w u v && slot_has ring plan w slot u))
      (some_is (length w.puts) (λ u. succeeds w u v && slot_has ring plan w slot u) h.0 l (and_from (succeeds w h.0 v) (slot_has ring plan w slot h.0) (is_succeeds w h.0 v h.1) h.2))
]
