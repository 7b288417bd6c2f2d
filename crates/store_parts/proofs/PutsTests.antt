-- The tests of puts that are kept are those of the world.
use Rattle.std.proofs.Common.{◌≡◌, ◌⊎◌, inl, inr, ◌∙◌, ℕ, zero, suc, ◌+◌, ◌<◌, ◌≤◌, Bool, false, cond, List, ◌∷◌, length, refl, sym, ap, arith}
use Rattle.std.specs.Prelude.{◌&&◌, ◌==◌, nat_lt, Option, Some, None, slice_get}
use Rattle.std.proofs.lemmas.Option.{slice_get_cases, slice_get_past}
use Rattle.ring_names.proofs.InLists.{get_there}
use Rattle.ring_table.specs.Value.{RingValue}
use Rattle.plan_text.specs.declared.step.Planned.{Planned}
use Rattle.plan_runs.specs.World.{PutRecord, World, passing_from, passing_below, generation, is_acked}
use Rattle.plan_runs.specs.World as world
use Rattle.plan_runs.specs.Versions.{put_slot}
use Rattle.plan_runs.specs.Guards.{put_exists, is_current, current_tickets}
use Rattle.store_parts.specs.declared.puts.PutNow.{PutNow}
use Rattle.store_parts.specs.Puts.{ticket_at, ticket_of}
use Rattle.store_parts.specs.PutsMeet.{PutMeets, PutsMeet}
use Rattle.store_parts.specs.PutsTests.{has_put, is_acked_at, is_current_at, current_count}

-- ---- numbers that pass

same_from : (k n : ℕ) (f h : ℕ → Bool) → ((i : ℕ) → i < k + n → f i ≡ h i) → passing_from k n f ≡ passing_from k n h
same_from k zero f h e = refl
same_from k (suc n) f h e =
    ap (λ (b : Bool). cond b (k ∷ passing_from (k + 1) n f) (passing_from (k + 1) n f)) (e k (omega arith))
    ∙ ap (λ (xs : List ℕ). cond (h k) (k ∷ xs) xs) (same_from (k + 1) n f h (λ i l. e i (omega arith)))

-- tests that say the same of the first n numbers pass the same of them
pub same_passing : (n : ℕ) (f h : ℕ → Bool) → ((i : ℕ) → i < n → f i ≡ h i) → passing_below n f ≡ passing_below n h
same_passing n f h e = same_from 0 n f h (λ i l. e i (omega arith))

more_from : (k m n : ℕ) (f : ℕ → Bool) → n ≤ m → ((i : ℕ) → k + n ≤ i → f i ≡ false) → passing_from k m f ≡ passing_from k n f
more_from k zero zero f le none = refl
more_from k zero (suc n) f le none = absurd (omega arith)
more_from k (suc m) zero f le none =
    ap (λ (b : Bool). cond b (k ∷ passing_from (k + 1) m f) (passing_from (k + 1) m f)) (none k (omega arith))
    ∙ more_from (k + 1) m zero f (omega arith) (λ i l. none i (omega arith))
more_from k (suc m) (suc n) f le none = ap (λ (xs : List ℕ). cond (f k) (k ∷ xs) xs) (more_from (k + 1) m n f (omega arith) (λ i l. none i (omega arith)))

-- where none from n on passes, more numbers are no more that pass
pub more_passing : (m n : ℕ) (f : ℕ → Bool) → n ≤ m → ((i : ℕ) → n ≤ i → f i ≡ false) → passing_below m f ≡ passing_below n f
more_passing m n f le none = more_from 0 m n f le (λ i l. none i (omega arith))

-- ---- puts

-- there is no put of the number here and there, or one, and it is that of the world
pub both_puts : (keys : List (List ℕ)) (last : ℕ → ℕ → Option ℕ) (puts : List PutNow) (w : World) (v : ℕ) → PutsMeet keys last puts w
    → ((slice_get puts v ≡ None) × (slice_get w.puts v ≡ None)) ⊎ ((put : PutNow) × (x : PutRecord) × (slice_get puts v ≡ Some put) × (slice_get w.puts v ≡ Some x) × PutMeets keys v put x)
both_puts keys last puts w v m = elim (slice_get_cases puts v).1 [
  | inl s ↦ (let l = s.1 in let e = m.each in let y = get_there w.puts v (omega arith) in inr (s.0, y.0, s.2, y.1, m.at v s.0 y.0 s.2 y.1))
  | inr s ↦ (let l = s.0 in let e = m.each in inl (s.1, slice_get_past w.puts v (omega arith)))
]

-- there are as many
pub same_put_number : (keys : List (List ℕ)) (last : ℕ → ℕ → Option ℕ) (puts : List PutNow) (w : World) (v : ℕ) → PutsMeet keys last puts w → nat_lt v (length puts) ≡ nat_lt v (length w.puts)
same_put_number keys last puts w v m = ap (λ (n : ℕ). nat_lt v n) m.each

-- whether a put and a slot index exist
pub same_has_put : (ring : RingValue) (keys : List (List ℕ)) (last : ℕ → ℕ → Option ℕ) (puts : List PutNow) (w : World) (v i : ℕ) → PutsMeet keys last puts w → has_put puts ring.n v i ≡ put_exists ring w v i
same_has_put ring keys last puts w v i m = ap (λ (b : Bool). b && nat_lt i ring.n) (same_put_number keys last puts w v m)

abbrev acked_here : Option PutNow → Bool
acked_here o = elim o [ Some put ↦ put.acked | None ↦ false ]

abbrev acked_known : Option PutRecord → Bool
acked_known o = elim o [ Some x ↦ x.acked | None ↦ false ]

-- whether the put is acknowledged
pub same_acked : (keys : List (List ℕ)) (last : ℕ → ℕ → Option ℕ) (puts : List PutNow) (w : World) (v : ℕ) → PutsMeet keys last puts w → is_acked_at puts v ≡ is_acked w v
same_acked keys last puts w v m = elim (both_puts keys last puts w v m) [
  | inl n ↦ ap acked_here n.0 ∙ sym (ap acked_known n.1)
  | inr s ↦ ap acked_here s.2 ∙ s.4.acked ∙ sym (ap acked_known s.3)
]

abbrev ticket_here : ℕ → Option PutNow → Option ℕ
ticket_here i o = elim o [ Some put ↦ ticket_at put i | None ↦ None ]

abbrev ticket_known : ℕ → Option PutRecord → Option ℕ
ticket_known i o = elim o [ Some x ↦ x.ticket i | None ↦ None ]

-- its tickets
pub same_ticket : (keys : List (List ℕ)) (last : ℕ → ℕ → Option ℕ) (puts : List PutNow) (w : World) (v i : ℕ) → PutsMeet keys last puts w → ticket_of puts v i ≡ world.ticket_of w v i
same_ticket keys last puts w v i m = elim (both_puts keys last puts w v m) [
  | inl n ↦ ap (ticket_here i) n.0 ∙ sym (ap (ticket_known i) n.1)
  | inr s ↦ ap (ticket_here i) s.2 ∙ s.4.tickets i ∙ sym (ap (ticket_known i) s.3)
]

-- whether its ticket for the slot is of the slot's generation
pub same_current : (ring : RingValue) (plan : List Planned) (keys : List (List ℕ)) (last : ℕ → ℕ → Option ℕ) (puts : List PutNow) (w : World) (v i g : ℕ)
    → PutsMeet keys last puts w → g ≡ generation plan w (put_slot ring w v i) → is_current_at puts v i g ≡ is_current ring plan w v i
same_current ring plan keys last puts w v i g m e =
    ap (λ (o : Option ℕ). elim o as (λ _. Bool) [ Some h ↦ h == g | None ↦ false ]) (same_ticket keys last puts w v i m)
    ∙ ap (λ (z : ℕ). elim (world.ticket_of w v i) as (λ _. Bool) [ Some h ↦ h == z | None ↦ false ]) e

-- how many of its tickets are current
pub same_current_count : (ring : RingValue) (plan : List Planned) (keys : List (List ℕ)) (last : ℕ → ℕ → Option ℕ) (puts : List PutNow) (w : World) (v : ℕ) (generations : ℕ → ℕ)
    → PutsMeet keys last puts w → ((i : ℕ) → i < ring.n → generations i ≡ generation plan w (put_slot ring w v i)) → current_count puts ring.n generations v ≡ current_tickets ring plan w v
same_current_count ring plan keys last puts w v generations m e =
    ap (λ (xs : List ℕ). length xs)
    (same_passing ring.n (λ i. is_current_at puts v i (generations i)) (is_current ring plan w v) (λ i l. same_current ring plan keys last puts w v i (generations i) m (e i l)))
