-- What owners, mirrors and keepers have once puts come to a slot.
use Rattle.std.proofs.Common.{◌≡◌, ◌⊎◌, inl, inr, ℕ, ◌<◌, Bool, true, false, not, List, Option, Some, None, refl, sym, subst, eqb-true, eq-eqb}
use Rattle.std.specs.Prelude.{◌==◌, ◌&&◌}
use Rattle.std.proofs.lemmas.Bool.{and_parts, or_right, and_from, or_left}
use Rattle.ring_names.specs.declared.ids.NodeId.{NodeId}
use Rattle.ring_names.specs.declared.ids.Slot.{Slot}
use Rattle.ring_table.specs.Value.{RingValue}
use Rattle.plan_text.specs.declared.step.Planned.{Planned}
use Rattle.plan_text.specs.Steps.{is_slot}
use Rattle.plan_runs.specs.World.{World, some_below, stage_now}
use Rattle.plan_runs.specs.Effects.{with_puts, with_mirror_puts, without_puts, served_puts}
use Rattle.plan_runs.proofs.Passing.{some_found, some_is}
use Rattle.plan_stage.proofs.Truth.{slot-is, slot-same}

-- ---- what was there stays

-- at any node
pub with_puts_more : (f : ℕ → Slot → ℕ → Bool) (x : NodeId) (s : Slot) (more : ℕ → Bool) (y : ℕ) (t : Slot) (a : ℕ) → f y t a ≡ true
    → with_puts f x s more y t a ≡ true
with_puts_more f x s more y t a e = or_right ((y == x.0) && is_slot s t && more a) (f y t a) e

-- where puts come to a mirror
pub with_mirror_more : (f : ℕ → Slot → ℕ → Bool) (o : Option NodeId) (s : Slot) (more : ℕ → Bool) (y : ℕ) (t : Slot) (a : ℕ) → f y t a ≡ true
    → with_mirror_puts f o s more y t a ≡ true
with_mirror_more f None s more y t a e = e
with_mirror_more f (Some x) s more y t a e = with_puts_more f x s more y t a e

-- where they come to owner and mirror
pub served_more : (ring : RingValue) (plan : List Planned) (w : World) (s : Slot) (more : ℕ → Bool) (y : ℕ) (t : Slot) (a : ℕ) → w.stored y t a ≡ true
    → served_puts ring plan w s more y t a ≡ true
served_more ring plan w s more y t a e =
    let o = (stage_now ring plan w s).owner in
    with_mirror_more (with_puts w.stored o s more) (stage_now ring plan w s).mirror s more y t a (with_puts_more w.stored o s more y t a e)

-- ---- what comes is there

-- at the node
pub with_puts_new : (f : ℕ → Slot → ℕ → Bool) (x : NodeId) (s : Slot) (more : ℕ → Bool) (a : ℕ) → more a ≡ true → with_puts f x s more x.0 s a ≡ true
with_puts_new f x s more a e =
    or_left ((x.0 == x.0) && is_slot s s && more a) (f x.0 s a)
    (and_from ((x.0 == x.0) && is_slot s s) (more a) (and_from (x.0 == x.0) (is_slot s s) (eq-eqb x.0 x.0 refl) (slot-same s)) e)

-- at the mirror
pub with_mirror_new : (f : ℕ → Slot → ℕ → Bool) (o : Option NodeId) (x : NodeId) (s : Slot) (more : ℕ → Bool) (a : ℕ) → o ≡ Some x → more a ≡ true
    → with_mirror_puts f o s more x.0 s a ≡ true
with_mirror_new f None x s more a is e = absurd cc
with_mirror_new f (Some y) x s more a is e =
    (let same : y ≡ x = cc in subst (λ (z : NodeId). with_puts f y s more z.0 s a ≡ true) same (with_puts_new f y s more a e))

-- at the owner
pub served_owner : (ring : RingValue) (plan : List Planned) (w : World) (s : Slot) (more : ℕ → Bool) (a : ℕ) → more a ≡ true
    → served_puts ring plan w s more (stage_now ring plan w s).owner.0 s a ≡ true
served_owner ring plan w s more a e =
    let o = (stage_now ring plan w s).owner in
    with_mirror_more (with_puts w.stored o s more) (stage_now ring plan w s).mirror s more o.0 s a (with_puts_new w.stored o s more a e)

-- and at the mirror with it
pub served_mirror : (ring : RingValue) (plan : List Planned) (w : World) (s : Slot) (more : ℕ → Bool) (x : NodeId) (a : ℕ)
    → (stage_now ring plan w s).mirror ≡ Some x → more a ≡ true → served_puts ring plan w s more x.0 s a ≡ true
served_mirror ring plan w s more x a is e =
    with_mirror_new (with_puts w.stored (stage_now ring plan w s).owner s more) (stage_now ring plan w s).mirror x s more a is e

-- ---- a mirror, if there is one, and keepers

-- a test of the mirror that passes goes on to pass where another one does
pub at_mirror_more : (o : Option NodeId) (f g : ℕ → Bool) → ((y : NodeId) → o ≡ Some y → f y.0 ≡ true → g y.0 ≡ true)
    → (elim o [ Some x ↦ f x.0 | None ↦ false ]) ≡ true → (elim o [ Some x ↦ g x.0 | None ↦ false ]) ≡ true
at_mirror_more None f g h e = absurd cc
at_mirror_more (Some y) f g h e = h y refl e

-- a test that the mirror passes
pub at_mirror : (o : Option NodeId) (f : ℕ → Bool) (x : NodeId) → o ≡ Some x → f x.0 ≡ true → (elim o [ Some y ↦ f y.0 | None ↦ false ]) ≡ true
at_mirror None f x is e = absurd cc
at_mirror (Some y) f x is e = (let same : x ≡ y = (let g : y ≡ x = cc in sym g) in subst (λ (z : NodeId). f z.0 ≡ true) same e)

-- some number passes a test that is passed wherever another one is
pub some_more : (n : ℕ) (f g : ℕ → Bool) → ((x : ℕ) → f x ≡ true → g x ≡ true) → some_below n f ≡ true → some_below n g ≡ true
some_more n f g h e = (let s = some_found n f e in some_is n g s.0 s.1 (h s.0 s.2))

-- a keeper of the put for a slot is the one that lets go, or goes on to keep it
pub kept_or_gone : (n : ℕ) (f : ℕ → Slot → ℕ → Bool) (x : NodeId) (s t : Slot) (a : ℕ) → some_below n (λ y. f y t a) ≡ true
    → ((t ≡ s) × (f x.0 s a ≡ true)) ⊎ (some_below n (λ y. without_puts f x s y t a) ≡ true)
kept_or_gone n f x s t a e = by ((k.0 == x.0) && is_slot s t) refl
  where
    k : (y : ℕ) × (y < n) × (f y t a ≡ true)
    k = some_found n (λ y. f y t a) e

    by : (b : Bool) → ((k.0 == x.0) && is_slot s t) ≡ b → ((t ≡ s) × (f x.0 s a ≡ true)) ⊎ (some_below n (λ y. without_puts f x s y t a) ≡ true)
    by true g =
        let p = and_parts (k.0 == x.0) (is_slot s t) g in
        let i : s ≡ t = slot-is s t p.1 in
        inl (sym i, subst (λ (z : Slot). f x.0 z a ≡ true) (sym i) (subst (λ z. f z t a ≡ true) (eqb-true k.0 x.0 p.0) k.2))
    by false g = inr (some_is n (λ y. without_puts f x s y t a) k.0 k.1 (and_from (not ((k.0 == x.0) && is_slot s t)) (f k.0 t a) (rw g refl) k.2))

-- and back
pub from_mirror : (o : Option NodeId) (f : ℕ → Bool) (x : NodeId) → o ≡ Some x → (elim o [ Some y ↦ f y.0 | None ↦ false ]) ≡ true → f x.0 ≡ true
from_mirror None f x is e = absurd cc
from_mirror (Some y) f x is e = (let same : y ≡ x = cc in subst (λ (z : NodeId). f z.0 ≡ true) same e)
