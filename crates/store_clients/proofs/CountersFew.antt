-- No counter of a clock is above the number of puts.
use Rattle.std.proofs.Common.{◌≡◌, inl, inr, ℕ, zero, suc, ◌+◌, ◌<◌, ◌≤◌, true, List, [], length, refl, ap, arith, ltb-true}
use Rattle.std.specs.Prelude.{◌&&◌, ◌||◌, ◌==◌, nat_lt, Option, Some, None, slice_get}
use Rattle.std.specs.Str.{bytes_eq}
use Rattle.std.proofs.lemmas.Bool.{and_parts}
use Rattle.std.proofs.lemmas.Option.{slice_get_within}
use Rattle.ring_table.specs.Value.{RingValue}
use Rattle.ring_clock.specs.declared.entry.Entry.{Entry}
use Rattle.ring_clock.specs.Clock.{counter}
use Rattle.ring_clock.proofs.Causing.{few_next}
use Rattle.ring_versions.specs.declared.version.Version.{Version}
use Rattle.ring_versions.specs.Versions.{IsIn}
use Rattle.plan_text.specs.declared.step.Planned.{Planned}
use Rattle.plan_runs.specs.World.{World, key_of_put, writer_of, seen_of}
use Rattle.plan_runs.specs.Succession.{is_direct, some_replied}
use Rattle.plan_runs.specs.Effects.{has_found}
use Rattle.plan_runs.proofs.Passing.{some_found}
use Rattle.store_parts.specs.Clocks.{AreClocksOf}
use Rattle.store_parts.specs.Found.{IsJoinOfFound}
use Rattle.store_parts.specs.declared.gets.GetNow.{GetNow}
use Rattle.store_parts.specs.declared.puts.PutNow.{PutNow}
use Rattle.store_parts.specs.GetsMeet.{found_at}
use Rattle.store_parts.specs.PutsMeet.{clock_in, clock_at}
use Rattle.store_parts.proofs.GetsChanges.{kept_get}
use Rattle.store_parts.specs.Kept.{Kept, Tells}
use Rattle.store_parts.proofs.StoreInWorld.{reached_of}

-- a direct predecessor comes before
direct_before : (w : World) (u v : ℕ) → is_direct w u v ≡ true → v < u
direct_before w u v h =
    let a = nat_lt v u in
    let b = nat_lt u (length w.puts) in
    let c = bytes_eq (key_of_put w u) (key_of_put w v) in
    let d = (writer_of w u == writer_of w v) || some_replied w.gets (seen_of w u) v in
    ltb-true v u (and_parts a b (and_parts (a && b) c (and_parts (a && b && c) d h).0).0).0

few_before : (w : World) (clock : ℕ → List Entry) → AreClocksOf w clock → (n v : ℕ) → v < n → v < length w.puts → (a : ℕ) → counter (clock v) a ≤ v + 1
few_before w clock made zero v l h a = absurd (omega arith)
few_before w clock made (suc n) v l h a =
    let c = made v h in
    few_next (writer_of w v) v c.0 (clock v) c.2
    (λ b. elim (c.1.from b) [
      | inl none ↦ omega arith
      | inr s ↦ (
          let less = direct_before w v s.0 s.1 in
          let few = few_before w clock made n s.0 (omega arith) (omega arith) b in
          let is = s.2 in
          omega arith)
    ]) a

module _ (ring : RingValue) (plan : List Planned) (k : Kept) (w : World) (m : Tells ring plan k w) where
  -- no clock of a put that is there has a counter above the number of puts
  few_there : (v a : ℕ) → v < length w.puts → counter (clock_at k.puts v) a ≤ length k.puts
  few_there v a l = (let f = few_before w (clock_at k.puts) m.puts.clocks (v + 1) v (omega arith) l a in let e = m.puts.each in omega arith)

  few_put : (v a : ℕ) → counter (clock_at k.puts v) a ≤ length k.puts
  few_put v a = by (slice_get k.puts v) refl
    where
      by : (o : Option PutNow) → slice_get k.puts v ≡ o → counter (elim o [ Some put ↦ clock_in put.version | None ↦ [] ]) a ≤ length k.puts
      by None e = omega arith
      by (Some put) e =
          let l = slice_get_within k.puts v put e in
          let n = m.puts.each in
          let f = few_there v a (omega arith) in
          let is : clock_at k.puts v ≡ clock_in put.version = ap (λ (o : Option PutNow). elim o as (λ _. List Entry) [ Some x ↦ clock_in x.version | None ↦ [] ]) e in
          let g = ap (λ (c : List Entry). counter c a) is in
          omega arith

  few_version : (g a : ℕ) (x : Version) → IsIn x (found_at k.gets g) → counter x.clock a ≤ length k.puts
  few_version g a x i = by (slice_get k.gets g) refl i
    where
      by : (o : Option GetNow) → slice_get k.gets g ≡ o → IsIn x (elim o [ Some get ↦ get.found | None ↦ [] ]) → counter x.clock a ≤ length k.puts
      by None e there = absurd there
      by (Some get) e there =
          let z = kept_get ring (clock_at k.puts) k.keys k.gets w g get m.gets e in
          let d = z.2.found.drawn x there in
          let s = some_found ring.n (has_found w g x.put) d.0 in
          let l = ((reached_of ring plan k w m).found g s.0 x.put s.2).0 in
          let f = few_there x.put a l in
          let is = ap (λ (c : List Entry). counter c a) d.1 in
          omega arith

  -- nor has a join of clocks that gets found and a put's clock
  pub few_joined : (seen : List ℕ) (last : Option ℕ) (d : List Entry) (a : ℕ) → IsJoinOfFound (clock_at k.puts) (found_at k.gets) seen last d → counter d a ≤ length k.puts
  few_joined seen last d a all = elim (all.from a) [
    | inl none ↦ omega arith
    | inr s ↦ elim s.1 [
      | inl x ↦ (
          let f = few_version x.0 a x.1 x.3 in
          let is = ap (λ (c : List Entry). counter c a) x.4 in
          let same = s.2 in
          omega arith)
      | inr x ↦ (
          let f = few_put x.0 a in
          let is = ap (λ (c : List Entry). counter c a) x.2 in
          let same = s.2 in
          omega arith)
    ]
  ]
