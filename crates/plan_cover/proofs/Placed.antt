-- The places in which slots are kept, and what another one leaves as it was; the places of numbers by side.
use Rattle.std.proofs.Common.{◌≡◌, ℕ, ◌<◌, Bool, true, false, cond, List, length, get_or, Option, Some, None, refl, sym, ◌∙◌, arith, slice_set}
use Rattle.std.specs.Prelude.{◌==◌, ◌&&◌, nat_lt}
use Rattle.std.proofs.lemmas.Bool.{eqb-true, ltb-true, lt-ltb, and_parts}
use Rattle.std.proofs.lemmas.Grind.{get_or-set_at}
use Rattle.std.proofs.lemmas.List.{get_or-set_other}
use Rattle.std.proofs.lemmas.Bool.Decides.{nat_tests}
use Rattle.ring_names.specs.declared.ids.Slot.{Slot}
use Rattle.ring_table.specs.declared.allowance.Side.{Side}
use Rattle.ring_table.specs.declared.allowance.Side.TheVariants.{Both, Take, Give}
use Rattle.ring_table.specs.Value.{is_side}
use Rattle.plan_text.specs.Steps.{is_slot}
use Rattle.plan_cover.specs.declared.present.Serving.{Serving}
use Rattle.plan_cover.specs.Looking.Places.{place_at}
use Rattle.plan_cover.specs.Looking.Serving.{place_of}

-- slots of one place are one slot
same-slot : (s t : Slot) → s.index < 7 → t.index < 7 → place_of s ≡ place_of t → is_slot s t ≡ true
same-slot s t l m e = grind (arith, nat_tests)

abbrev at : List (Option Serving) → Slot → Option Serving
at xs s = cond (nat_lt s.index 7) (get_or xs (place_of s) None) None

pub kept-set : (xs : List (Option Serving)) (k : ℕ) (s t : Slot) (v : Serving) → k ≡ place_of t → t.index < 7 → place_of t < length xs → at (slice_set xs k (Some v)) s ≡ cond (is_slot s t) (Some v) (at xs s)
kept-set xs k s t v e m l = by (is_slot s t) (nat_lt s.index 7) refl refl
  where
    by : (b c : Bool) → is_slot s t ≡ b → nat_lt s.index 7 ≡ c → cond c (get_or (slice_set xs k (Some v)) (place_of s) None) None ≡ cond b (Some v) (cond c (get_or xs (place_of s) None) None)
    by true c is low =
        let p = and_parts (s.partition == t.partition) (s.index == t.index) is in
        let a : s.partition ≡ t.partition = eqb-true s.partition t.partition p.0 in
        let b : s.index ≡ t.index = eqb-true s.index t.index p.1 in
        let y : c ≡ true = sym low ∙ lt-ltb s.index 7 (omega arith) in
        rw y (get_or-set_at xs k (place_of s) (Some v) None (omega arith) (omega arith))
    by false true other low = get_or-set_other xs k (place_of s) (Some v) None (λ equal. (let f = same-slot s t (ltb-true s.index 7 low) m (equal ∙ e) in absurd cc))
    by false false other low = refl

-- two places are the same only if the numbers and the sides are
pub place_same : (n m : ℕ) (s t : Side) → (place_at n s == place_at m t) ≡ ((n == m) && is_side s t)
place_same n m Both Both = grind (arith, nat_tests)
place_same n m Both Take = grind (arith, nat_tests)
place_same n m Both Give = grind (arith, nat_tests)
place_same n m Take Both = grind (arith, nat_tests)
place_same n m Take Take = grind (arith, nat_tests)
place_same n m Take Give = grind (arith, nat_tests)
place_same n m Give Both = grind (arith, nat_tests)
place_same n m Give Take = grind (arith, nat_tests)
place_same n m Give Give = grind (arith, nat_tests)
