-- What a slot holds, by the versions at its owner and at keepers of hints for it.
use Rattle.std.proofs.Common.{◌≡◌, ◌⊎◌, inl, inr, ℕ, ◌<◌, Bool, true, List, length, subst}
use Rattle.std.specs.Prelude.{◌↔◌, ◌&&◌}
use Rattle.std.proofs.lemmas.Bool.{and_parts, or_right, and_from, or_cases, or_left}
use Rattle.std.proofs.lemmas.Slice.Eq.{bytes_eq-Decides}
use Rattle.ring_names.specs.declared.ids.Slot.{Slot}
use Rattle.ring_table.specs.Value.{RingValue}
use Rattle.ring_clock.specs.declared.entry.Entry.{Entry}
use Rattle.ring_clock.specs.Clock.{IsAtMost}
use Rattle.ring_versions.specs.declared.version.Version.{Version}
use Rattle.ring_versions.specs.Versions.{Covers}
use Rattle.ring_versions.proofs.Members.{covers_down}
use Rattle.plan_text.specs.declared.step.Planned.{Planned}
use Rattle.plan_runs.specs.World.{World, stage_now, key_of_put, is_of_key}
use Rattle.plan_runs.specs.Succession.{Succeeds}
use Rattle.plan_runs.specs.Versions.{some_hinted, is_held}
use Rattle.plan_runs.specs.Reached.{Reached}
use Rattle.plan_runs.proofs.Lasting.{succeeds_same_key}
use Rattle.plan_runs.proofs.Passing.{some_found, some_is}
use Rattle.plan_runs.proofs.Succeeding.{held_is, is_held_from}
use Rattle.store_parts.specs.Shows.{Shows}
use Rattle.store_parts.specs.Clocks.{AreClocksOf}
use Rattle.store_parts.proofs.ClocksOrder.{above, tells}

module _ (w : World) (clock : ℕ → List Entry) (value : ℕ → List ℕ) (made : AreClocksOf w clock) (v : ℕ) (exists : v < length w.puts) where
  abbrev key : List ℕ
  key = key_of_put w v

  -- a set that shows puts of the key, one of which succeeds the put, covers its clock
  covered : (held : List Version) (test : ℕ → Bool) → Shows clock value held (λ u. test u && is_of_key w key u) → (u : ℕ) → u < length w.puts → test u ≡ true → Succeeds w u v → Covers held (clock v)
  covered held test s u l h succeeds =
      let of : is_of_key w key u ≡ true = (bytes_eq-Decides (key_of_put w u) key).1 (succeeds_same_key w u v succeeds) in
      covers_down held (clock v) (clock u) (above w clock made u v l succeeds) (s.covers u (and_from (test u) (is_of_key w key u) h of))

  -- and if the set covers the put's clock, a shown put succeeds the put
  succeeded : (held : List Version) (test : ℕ → Bool) → Shows clock value held (λ u. test u && is_of_key w key u) → ((u : ℕ) → test u ≡ true → u < length w.puts) → Covers held (clock v) → (u : ℕ) × Succeeds w u v × (test u ≡ true)
  succeeded held test s are c =
      let d = s.drawn c.0 c.1 in
      let b = and_parts (test c.0.put) (is_of_key w key c.0.put) d.0 in
      let le : IsAtMost (clock v) (clock c.0.put) = subst (λ (z : List Entry). IsAtMost (clock v) z) d.1 c.2 in
      let same : key_of_put w c.0.put ≡ key_of_put w v = (bytes_eq-Decides (key_of_put w c.0.put) key).0 b.1 in
      (c.0.put, (tells w clock made c.0.put v (are c.0.put b.0) exists same).0 le, b.0)

pub held : (ring : RingValue) (plan : List Planned) (w : World) (clock : ℕ → List Entry) (value : ℕ → List ℕ) (v : ℕ) (slot : Slot) (owner_held : List Version) (hint_held : ℕ → List Version) → Reached ring plan w → AreClocksOf w clock → v < length w.puts
    → Shows clock value owner_held (λ u. w.stored (stage_now ring plan w slot).owner.0 slot u && is_of_key w (key_of_put w v) u)
    → ((x : ℕ) → x < length ring.nodes → Shows clock value (hint_held x) (λ u. w.hinted x slot u && is_of_key w (key_of_put w v) u))
    → (is_held ring plan w v slot ≡ true) ↔ (Covers owner_held (clock v) ⊎ ((x : ℕ) × (x < length ring.nodes) × Covers (hint_held x) (clock v)))
held ring plan w clock value v slot owner_held hint_held reached made exists owners hints = let owner = (stage_now ring plan w slot).owner.0 in (
  λ h. (
      let s = held_is ring plan w v slot h in
      elim (or_cases (w.stored owner slot s.0) (some_hinted ring w slot s.0) s.2) [
        | inl f ↦ inl (covered w clock value made v exists owner_held (w.stored owner slot) owners s.0 (reached.stored owner slot s.0 f).0 f s.1)
        | inr f ↦ (
            let x = some_found (length ring.nodes) (λ y. w.hinted y slot s.0) f in
            inr (x.0, x.1, covered w clock value made v exists (hint_held x.0) (w.hinted x.0 slot) (hints x.0 x.1) s.0 (reached.hinted x.0 slot s.0 x.2).0 x.2 s.1))
      ]),
  λ h. is_held_from ring plan w v slot (elim h [
    | inl c ↦ (
        let s = succeeded w clock value made v exists owner_held (w.stored owner slot) owners (λ u e. (reached.stored owner slot u e).0) c in
        (s.0, s.1, or_left (w.stored owner slot s.0) (some_hinted ring w slot s.0) s.2))
    | inr c ↦ (
        let s = succeeded w clock value made v exists (hint_held c.0) (w.hinted c.0 slot) (hints c.0 c.1) (λ u e. (reached.hinted c.0 slot u e).0) c.2 in
        (s.0, s.1, or_right (w.stored owner slot s.0) (some_hinted ring w slot s.0) (some_is (length ring.nodes) (λ y. w.hinted y slot s.0) c.0 c.1 s.2)))
  ]),
)
