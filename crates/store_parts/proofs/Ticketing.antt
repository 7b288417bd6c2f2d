-- The tickets of a put once one of them was written.
use Rattle.std.proofs.Common.{◌≡◌, ◌≢◌, inl, inr, ℕ, zero, suc, ◌<◌, List, [], ◌∷◌, length, slice_set, refl, ap, arith, eq-eqb}
use Rattle.std.specs.Prelude.{◌==◌, Option, Some}
use Rattle.std.proofs.lemmas.Bool.Decides.{eqb_tells}
use Rattle.std.proofs.lemmas.Bool.{ne_eqb}
use Rattle.plan_runs.specs.Effects.{with_value}
use Rattle.store_parts.specs.Puts.{ticket_in, with_ticket}

-- a write in place, if there is a place
pub written_ticket : (ts : List (Option ℕ)) (i g : ℕ) → i < length ts → slice_set ts i (Some g) ≡ with_ticket ts i g
written_ticket [] i g l = absurd (omega arith)
written_ticket (x ∷ xs) zero g l = refl
written_ticket (x ∷ xs) (suc i) g l = ap (λ ts. x ∷ ts) (written_ticket xs i g (omega arith))

next : (m n : ℕ) → (suc m == suc n) ≡ (m == n)
next m n = elim (eqb_tells m n) [
  | inl t ↦ rw (t.0, eq-eqb (suc m) (suc n) (ap suc t.1)) refl
  | inr t ↦ (let ne = t.1 in rw (t.0, ne_eqb (suc m) (suc n) (λ e. ne (omega arith))) refl)
]

-- the ticket that was written, and the others as before
pub ticket_read : (ts : List (Option ℕ)) (i g j : ℕ) → ticket_in (with_ticket ts i g) j ≡ with_value (ticket_in ts) i g j
ticket_read [] zero g zero = refl
ticket_read [] zero g (suc j) = rw (ne_eqb (suc j) 0 (λ e. omega arith)) refl
ticket_read [] (suc i) g zero = rw (ne_eqb 0 (suc i) (λ e. omega arith)) refl
ticket_read [] (suc i) g (suc j) = rw (next j i) (ticket_read [] i g j)
ticket_read (x ∷ xs) zero g zero = refl
ticket_read (x ∷ xs) zero g (suc j) = rw (ne_eqb (suc j) 0 (λ e. omega arith)) refl
ticket_read (x ∷ xs) (suc i) g zero = rw (ne_eqb 0 (suc i) (λ e. omega arith)) refl
ticket_read (x ∷ xs) (suc i) g (suc j) = rw (next j i) (ticket_read xs i g j)

pub ruleset ticketing = (written_ticket, ticket_read)
