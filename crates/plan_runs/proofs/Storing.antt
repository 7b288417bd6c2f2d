-- What every event leaves true of what nodes store and keep, and of puts and gets.
use Rattle.std.proofs.Common.{◌≡◌, ◌⊎◌, inl, inr, ◌∙◌, ℕ, zero, suc, ◌<◌, ◌≤◌, Bool, true, false, not, List, [], ◌∷◌, length, sym, ap, subst, arith, eqb-true}
use Rattle.std.specs.Prelude.{◌&&◌, ◌==◌, Option, Some, None, slice_get}
use Rattle.std.specs.Str.{bytes_eq}
use Rattle.ring_names.specs.Lists.{has}
use Rattle.ring_names.specs.declared.ids.NodeId.{NodeId}
use Rattle.ring_names.specs.declared.ids.Slot.{Slot}
use Rattle.ring_space.specs.Place.{place_of}
use Rattle.ring_table.specs.Value.{RingValue}
use Rattle.std.proofs.lemmas.Bool.{and_parts, or_cases}
use Rattle.std.proofs.lemmas.Bool.Decides.{nat_tests}
use Rattle.plan_text.specs.declared.step.Planned.{Planned}
use Rattle.plan_text.specs.Steps.{is_slot}
use Rattle.plan_runs.specs.World.{PutRecord, GetRecord, World, stage_now, key_of_put, key_of_get, seen_of, is_get_of, is_of_key}
use Rattle.plan_runs.specs.Succession.{replied}
use Rattle.plan_runs.specs.Guards.{has_ended}
use Rattle.plan_runs.specs.Effects.{with_puts, with_mirror_puts, without_puts, served_puts, has_found, lose_effect}
use Rattle.plan_runs.specs.Reached.{IsPutOf, IsPutForGet, IsGetForPut}
use Rattle.plan_runs.proofs.Changed.{read_at}
use Rattle.plan_stage.proofs.Truth.{slot-is}

pub record StoreFits (ring : RingValue) (w : World) : Type 0 where
  pub stored : (x : ℕ) (slot : Slot) (v : ℕ) → w.stored x slot v ≡ true → IsPutOf ring w slot v
  pub hinted : (x : ℕ) (slot : Slot) (v : ℕ) → w.hinted x slot v ≡ true → IsPutOf ring w slot v

pub record GetsFit (w : World) : Type 0 where
  pub found : (g i v : ℕ) → has_found w g v i ≡ true → IsPutForGet w g v
  pub replied : (g v : ℕ) → replied w.gets g v ≡ true → IsPutForGet w g v
  pub seen : (u g : ℕ) → has g (seen_of w u) ≡ true → IsGetForPut w u g

-- ---- puts for a slot

-- a put that is there with more puts is one of them, or was there
pub with_puts_is : (f : ℕ → Slot → ℕ → Bool) (x : NodeId) (s : Slot) (more : ℕ → Bool) (y : ℕ) (t : Slot) (u : ℕ) → with_puts f x s more y t u ≡ true → ((y ≡ x.0) × (t ≡ s) × (more u ≡ true)) ⊎ (f y t u ≡ true)
with_puts_is f x s more y t u e = elim (or_cases ((y == x.0) && is_slot s t && more u) (f y t u) e) [
  | inl g ↦ (
      let p = and_parts ((y == x.0) && is_slot s t) (more u) g in
      let q = and_parts (y == x.0) (is_slot s t) p.0 in
      inl (eqb-true y x.0 q.0, sym (slot-is s t q.1), p.1))
  | inr g ↦ inr g
]

pub with_mirror_is : (f : ℕ → Slot → ℕ → Bool) (o : Option NodeId) (s : Slot) (more : ℕ → Bool) (y : ℕ) (t : Slot) (u : ℕ) → with_mirror_puts f o s more y t u ≡ true → ((t ≡ s) × (more u ≡ true)) ⊎ (f y t u ≡ true)
with_mirror_is f None s more y t u e = inr e
with_mirror_is f (Some x) s more y t u e = elim (with_puts_is f x s more y t u e) [ inl g ↦ inl (g.1, g.2) | inr g ↦ inr g ]

pub served_puts_is : (ring : RingValue) (plan : List Planned) (w : World) (s : Slot) (more : ℕ → Bool) (y : ℕ) (t : Slot) (u : ℕ) → served_puts ring plan w s more y t u ≡ true → ((t ≡ s) × (more u ≡ true)) ⊎ (w.stored y t u ≡ true)
served_puts_is ring plan w s more y t u e = elim (with_mirror_is (with_puts w.stored (stage_now ring plan w s).owner s more) (stage_now ring plan w s).mirror s more y t u e) [
  | inl g ↦ inl g
  | inr g ↦ elim (with_puts_is w.stored (stage_now ring plan w s).owner s more y t u g) [ inl h ↦ inl (h.1, h.2) | inr h ↦ inr h ]
]

pub without_puts_was : (f : ℕ → Slot → ℕ → Bool) (x : NodeId) (s : Slot) (y : ℕ) (t : Slot) (u : ℕ) → without_puts f x s y t u ≡ true → f y t u ≡ true
without_puts_was f x s y t u e = (and_parts (not ((y == x.0) && is_slot s t)) (f y t u) e).1

-- what nodes store and keep after a loss they had before it
pub lose_stored : (ring : RingValue) (plan : List Planned) (w : World) (x : NodeId) (y : ℕ) (t : Slot) (u : ℕ) → (lose_effect ring plan w x).stored y t u ≡ true → w.stored y t u ≡ true
lose_stored ring plan w x y t u e = grind (arith, nat_tests)

pub lose_hinted : (ring : RingValue) (plan : List Planned) (w : World) (x : NodeId) (y : ℕ) (t : Slot) (u : ℕ) → (lose_effect ring plan w x).hinted y t u ≡ true → w.hinted y t u ≡ true
lose_hinted ring plan w x y t u e = grind (arith, nat_tests)

-- ---- where puts and gets only come, or change in what is not read here

pub record Grows (w u : World) : Type 0 where
  pub puts : length w.puts ≤ length u.puts
  pub gets : length w.gets ≤ length u.gets
  pub key : (v : ℕ) → v < length w.puts → key_of_put u v ≡ key_of_put w v
  pub asked : (g : ℕ) → g < length w.gets → key_of_get u g ≡ key_of_get w g
  pub of_key : (key : List ℕ) (g : ℕ) → is_get_of w key g ≡ true → is_get_of u key g ≡ true
  pub ended : (g : ℕ) → has_ended w g ≡ true → has_ended u g ≡ true

pub put_stays : (ring : RingValue) (w u : World) (s : Slot) (v : ℕ) → Grows w u → IsPutOf ring w s v → IsPutOf ring u s v
put_stays ring w u s v g h =
    let l : v < length w.puts = h.0 in
    let m = g.puts in
    (omega arith, ap (λ (k : List ℕ). (place_of ring.q k).partition) (g.key v l) ∙ h.1)

pub for_get_stays : (w u : World) (g v : ℕ) → Grows w u → g < length w.gets → IsPutForGet w g v → IsPutForGet u g v
for_get_stays w u g v grows l h =
    let m = grows.puts in
    let n : v < length w.puts = h.0 in
    let a : is_of_key u (key_of_get w g) v ≡ true = subst (λ (k : List ℕ). bytes_eq k (key_of_get w g) ≡ true) (sym (grows.key v n)) h.1 in
    (omega arith, subst (λ (k : List ℕ). is_of_key u k v ≡ true) (sym (grows.asked g l)) a)

pub for_put_stays : (w u : World) (p g : ℕ) → Grows w u → p < length w.puts → IsGetForPut w p g → IsGetForPut u p g
for_put_stays w u p g grows l h =
    let m = grows.gets in
    let n : g < length w.gets = h.0 in
    let a : is_get_of u (key_of_put w p) g ≡ true = grows.of_key (key_of_put w p) g h.1 in
    (omega arith, subst (λ (k : List ℕ). is_get_of u k g ≡ true) (sym (grows.key p l)) a, grows.ended g h.2)

-- ---- what is read of a record tells that there is one

pub found_exists : (w : World) (g i v : ℕ) → has_found w g v i ≡ true → g < length w.gets
found_exists w g i v h = by w.gets g h
  where
    by : (gs : List GetRecord) (k : ℕ) → (elim (elim (slice_get gs k) as (λ _. Option (List ℕ)) [ Some x ↦ x.found i | None ↦ None ]) [ Some vs ↦ has v vs | None ↦ false ]) ≡ true → k < length gs
    by [] k e = absurd cc
    by (x ∷ gs) zero e = omega arith
    by (x ∷ gs) (suc k) e = (let l = by gs k e in omega arith)

pub reply_exists : (gs : List GetRecord) (g v : ℕ) → replied gs g v ≡ true → g < length gs
reply_exists [] g v e = absurd cc
reply_exists (x ∷ gs) zero v e = omega arith
reply_exists (x ∷ gs) (suc g) v e = (let l = reply_exists gs g v e in omega arith)

pub seen_exists : (ps : List PutRecord) (u g : ℕ) → has g (read_at (λ (x : PutRecord). x.seen) [] ps u) ≡ true → u < length ps
seen_exists [] u g e = absurd cc
seen_exists (x ∷ ps) zero g e = omega arith
seen_exists (x ∷ ps) (suc u) g e = (let l = seen_exists ps u g e in omega arith)
