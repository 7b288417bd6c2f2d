-- Puts by number: whether there is one, and what is read of it.
use Rattle.std.proofs.Common.{◌≡◌, ◌⊎◌, inl, inr, ◌∙◌, ℕ, zero, suc, ◌<◌, true, false, List, [], ◌∷◌, ◌++◌, length, Option, Some, None, refl, sym, ap, arith}
use Rattle.std.proofs.Common.{eqb-true, eq-eqb}
use Rattle.std.specs.Prelude.{◌==◌}
use Rattle.ring_table.specs.Value.{RingValue}
use Rattle.plan_text.specs.declared.step.Planned.{Planned}
use Rattle.plan_runs.specs.World.{World, PutRecord, ticket_of, generation}
use Rattle.plan_runs.specs.Versions.{put_slot}
use Rattle.plan_runs.specs.Guards.{is_current}
use Rattle.plan_runs.specs.Effects.{changed}
use Rattle.plan_runs.proofs.Changed.{read_at}

-- an acknowledged put exists
pub acked_exists : (ps : List PutRecord) (v : ℕ) → read_at (λ (x : PutRecord). x.acked) false ps v ≡ true → v < length ps
acked_exists [] v e = absurd cc
acked_exists (x ∷ ps) zero e = omega arith
acked_exists (x ∷ ps) (suc v) e = (let l = acked_exists ps v e in omega arith)

-- a put with a ticket exists
pub ticket_exists : (ps : List PutRecord) (v i g : ℕ) → read_at (λ (x : PutRecord). x.ticket i) None ps v ≡ Some g → v < length ps
ticket_exists [] v i g e = absurd cc
ticket_exists (x ∷ ps) zero i g e = omega arith
ticket_exists (x ∷ ps) (suc v) i g e = (let l = ticket_exists ps v i g e in omega arith)

-- a ticket passes as current if it is of that generation
of_generation : (o : Option ℕ) (n : ℕ) → (elim o [ Some g ↦ g == n | None ↦ false ]) ≡ true → o ≡ Some n
of_generation None n e = absurd cc
of_generation (Some g) n e = (let s : g ≡ n = eqb-true g n e in ap (λ (m : ℕ). Some m) s)

-- a current ticket is of the slot's generation
pub current_ticket : (ring : RingValue) (plan : List Planned) (w : World) (v i : ℕ) → is_current ring plan w v i ≡ true
    → ticket_of w v i ≡ Some (generation plan w (put_slot ring w v i))
current_ticket ring plan w v i e = of_generation (ticket_of w v i) (generation plan w (put_slot ring w v i)) e

-- and back
at_generation : (o : Option ℕ) (n : ℕ) → o ≡ Some n → (elim o [ Some g ↦ g == n | None ↦ false ]) ≡ true
at_generation None n e = absurd cc
at_generation (Some g) n e = eq-eqb g n (let s : g ≡ n = cc in s)

-- so a ticket of the slot's generation is current
pub is_current_by : (ring : RingValue) (plan : List Planned) (w : World) (v i : ℕ) → ticket_of w v i ≡ Some (generation plan w (put_slot ring w v i))
    → is_current ring plan w v i ≡ true
is_current_by ring plan w v i e = at_generation (ticket_of w v i) (generation plan w (put_slot ring w v i)) e

-- a put that is acknowledged once one was changed was so before, or is that one
pub changed_acked : (ps : List PutRecord) (n : ℕ) (f : PutRecord → PutRecord) (v : ℕ) → read_at (λ (x : PutRecord). x.acked) false (changed ps n f) v ≡ true
    → (read_at (λ (x : PutRecord). x.acked) false ps v ≡ true) ⊎ (v ≡ n)
changed_acked [] n f v e = absurd cc
changed_acked (x ∷ ps) zero f zero e = inr refl
changed_acked (x ∷ ps) zero f (suc v) e = inl e
changed_acked (x ∷ ps) (suc n) f zero e = inl e
changed_acked (x ∷ ps) (suc n) f (suc v) e = elim (changed_acked ps n f v e) [ inl h ↦ inl h | inr h ↦ inr (ap suc h) ]

-- a put that comes is not acknowledged
pub new_put_acked : (ps : List PutRecord) (p : PutRecord) (v : ℕ) → p.acked ≡ false → read_at (λ (x : PutRecord). x.acked) false (ps ++ p ∷ []) v ≡ true
    → read_at (λ (x : PutRecord). x.acked) false ps v ≡ true
new_put_acked [] p zero off e = absurd (let f = sym off ∙ e in cc)
new_put_acked [] p (suc v) off e = absurd cc
new_put_acked (x ∷ ps) p zero off e = e
new_put_acked (x ∷ ps) p (suc v) off e = new_put_acked ps p v off e
