-- What every event leaves true of tickets.
use Rattle.std.proofs.Common.{◌≡◌, ◌⊎◌, inl, inr, ◌∙◌, ℕ, zero, suc, ◌<◌, ◌≤◌, Bool, true, false, cond, List, [], ◌∷◌, ◌++◌, length, refl, sym, ap, subst, arith, eqb-true}
use Rattle.std.specs.Prelude.{◌&&◌, ◌==◌, Some, None, is_some}
use Rattle.ring_names.specs.declared.ids.NodeId.{NodeId}
use Rattle.ring_names.specs.declared.ids.Slot.{Slot}
use Rattle.ring_table.specs.Value.{RingValue}
use Rattle.std.proofs.lemmas.Bool.{and_parts, and_from}
use Rattle.std.proofs.lemmas.Bool.Decides.{nat_tests}
use Rattle.plan_text.specs.declared.step.Planned.{Planned}
use Rattle.plan_text.specs.Steps.{steps_of}
use Rattle.plan_runs.specs.World.{PutRecord, World, key_of_put, ticket_of, mirror_at, mirrors_done, generation, slot_of}
use Rattle.plan_runs.specs.Versions.{put_slot}
use Rattle.plan_runs.specs.Effects.{changed, with_value, lose_effect}
use Rattle.plan_runs.proofs.Changed.{read_at}
use Rattle.plan_runs.proofs.Prefix.{count_in}

abbrev pub TicketFits : RingValue → List Planned → World → ℕ → ℕ → ℕ → Type 0
TicketFits ring plan w v i g = (i < ring.n) × (g ≤ generation plan w (put_slot ring w v i))

abbrev pub TicketsFit : RingValue → List Planned → World → Type 0
TicketsFit ring plan w = (v i g : ℕ) → ticket_of w v i ≡ Some g → TicketFits ring plan w v i g

-- ---- generations rise

pub mirrors_more : (plan : List Planned) (w u : World) (slot : Slot) → ((m : ℕ) → w.done m ≡ true → u.done m ≡ true) → mirrors_done plan w slot ≤ mirrors_done plan u slot
mirrors_more plan w u slot h = count_in (λ s. w.done s && is_some (mirror_at plan s)) (λ s. u.done s && is_some (mirror_at plan s)) (steps_of plan slot)
    (λ m i e. (let b = and_parts (w.done m) (is_some (mirror_at plan m)) e in and_from (u.done m) (is_some (mirror_at plan m)) (h m b.0) b.1))

pub generation_more : (plan : List Planned) (w u : World) (slot : Slot) → ((m : ℕ) → w.done m ≡ true → u.done m ≡ true) → w.lost slot ≤ u.lost slot → generation plan w slot ≤ generation plan u slot
generation_more plan w u slot h l = (let m = mirrors_more plan w u slot h in omega arith)

-- no slot has fewer losses after one
pub lose_more : (ring : RingValue) (plan : List Planned) (w : World) (x : NodeId) (slot : Slot) → w.lost slot ≤ (lose_effect ring plan w x).lost slot
lose_more ring plan w x slot = grind (arith, nat_tests)

-- a ticket stays where the put keeps its key
pub ticket_stays : (ring : RingValue) (plan : List Planned) (w u : World) (v i g : ℕ) → key_of_put u v ≡ key_of_put w v → ((m : ℕ) → w.done m ≡ true → u.done m ≡ true) → ((s : Slot) → w.lost s ≤ u.lost s) → TicketFits ring plan w v i g → TicketFits ring plan u v i g
ticket_stays ring plan w u v i g key more lost h =
    let l : g ≤ generation plan w (put_slot ring w v i) = h.1 in
    let m = generation_more plan w u (put_slot ring w v i) more (lost (put_slot ring w v i)) in
    let k : g ≤ generation plan u (put_slot ring w v i) = omega arith in
    (h.0, subst (λ (z : List ℕ). g ≤ generation plan u (slot_of ring z i)) (sym key) k)

-- ---- tickets of puts that come, and of a put that is changed

pub new_put_ticket : (ps : List PutRecord) (p : PutRecord) (v i g : ℕ) → p.ticket i ≡ None → read_at (λ (x : PutRecord). x.ticket i) None (ps ++ p ∷ []) v ≡ Some g → (v < length ps) × (read_at (λ (x : PutRecord). x.ticket i) None ps v ≡ Some g)
new_put_ticket [] p zero i g none e = absurd (let f = sym none ∙ e in cc)
new_put_ticket [] p (suc v) i g none e = absurd cc
new_put_ticket (x ∷ ps) p zero i g none e = (omega arith, e)
new_put_ticket (x ∷ ps) p (suc v) i g none e = (let r = new_put_ticket ps p v i g none e in let l = r.0 in (omega arith, r.1))

pub changed_ticket : (ps : List PutRecord) (n : ℕ) (f : PutRecord → PutRecord) (v i g : ℕ) → read_at (λ (x : PutRecord). x.ticket i) None (changed ps n f) v ≡ Some g
    → (read_at (λ (x : PutRecord). x.ticket i) None ps v ≡ Some g) ⊎ ((v ≡ n) × (x : PutRecord) × ((f x).ticket i ≡ Some g) × (read_at (λ (y : PutRecord). y.ticket i) None ps v ≡ x.ticket i))
changed_ticket [] n f v i g e = absurd cc
changed_ticket (x ∷ ps) zero f zero i g e = inr (refl, x, e, refl)
changed_ticket (x ∷ ps) zero f (suc v) i g e = inl e
changed_ticket (x ∷ ps) (suc n) f zero i g e = inl e
changed_ticket (x ∷ ps) (suc n) f (suc v) i g e = elim (changed_ticket ps n f v i g e) [ inl h ↦ inl h | inr h ↦ inr (ap suc h.0, h.1, h.2, h.3) ]

-- a put with a ticket for the slot of index j, of its present generation
pub ticketed_fits : (ring : RingValue) (plan : List Planned) (w : World) (n j : ℕ) → j < ring.n → (v i g : ℕ)
    → read_at (λ (x : PutRecord). x.ticket i) None (changed w.puts n (λ x. record x { ticket = with_value x.ticket j (generation plan w (put_slot ring w n j)) })) v ≡ Some g
    → (ticket_of w v i ≡ Some g) ⊎ TicketFits ring plan w v i g
ticketed_fits ring plan w n j l v i g e = elim (changed_ticket w.puts n (λ x. record x { ticket = with_value x.ticket j (generation plan w (put_slot ring w n j)) }) v i g e) [
  | inl f ↦ inl f
  | inr f ↦ by (i == j) refl f.1 f.2 f.0 f.3
]
  where
    by : (b : Bool) → (i == j) ≡ b → (x : PutRecord) → cond b (Some (generation plan w (put_slot ring w n j))) (x.ticket i) ≡ Some g → v ≡ n → ticket_of w v i ≡ x.ticket i → (ticket_of w v i ≡ Some g) ⊎ TicketFits ring plan w v i g
    by false same x h is at = inl (at ∙ h)
    by true same x h is at =
        let k : i ≡ j = eqb-true i j same in
        let m : generation plan w (put_slot ring w n j) ≡ g = cc in
        let a : generation plan w (put_slot ring w v i) ≡ generation plan w (put_slot ring w n j) = ap (λ (z : ℕ). generation plan w (put_slot ring w z i)) is ∙ ap (λ (z : ℕ). generation plan w (put_slot ring w n z)) k in
        inr (omega arith, omega arith)
