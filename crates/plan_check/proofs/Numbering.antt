-- How many mirrors of a slot are finished, and how many are in front of a step.
use Rattle.std.proofs.Common.{◌≡◌, inl, inr, ℕ, ◌<◌, ◌≤◌, Bool, true, false, List, get_or, refl, sym, ap, subst, arith, ltb-true}
use Rattle.std.proofs.Common.{eq-eqb}
use Rattle.std.specs.Prelude.{◌==◌, ◌&&◌, nat_lt, is_some}
use Rattle.std.proofs.lemmas.Bool.{and_parts, or_right, and_from, cases_lt}
use Rattle.std.proofs.lemmas.Bool.Decides.{eqb_tells}
use Rattle.ring_names.specs.Lists.{has}
use Rattle.ring_names.specs.declared.ids.Slot.{Slot}
use Rattle.ring_table.specs.Value.{RingValue}
use Rattle.plan_text.specs.declared.step.Planned.{Planned}
use Rattle.plan_text.specs.Steps.{steps_of}
use Rattle.plan_order.specs.Before.{Before}
use Rattle.plan_runs.specs.World.{count, mirror_at}
use Rattle.plan_runs.specs.Effects.{with_number}
use Rattle.plan_check.specs.Firm.{mirrors_before}
use Rattle.plan_runs.specs.Reached.{Ready, Closed}
use Rattle.plan_runs.proofs.Prefix.{found, rising, count_same, count_in, count_less}
use Rattle.plan_check.proofs.Mirrored.{Known, before_ready, rises}
use Rattle.plan_check.proofs.Partakers.{in_turn}

-- ---- mirrors

-- with a test that fails two tests fail alike
pub both_off : (a b c : Bool) → c ≡ false → (a && c) ≡ (b && c)
both_off true true c h = refl
both_off true false c h = h
both_off false true c h = sym h
both_off false false c h = refl

-- a step that is not a mirror of the slot leaves the number of its finished mirrors
pub mirrors_left : (plan : List Planned) (D : ℕ → Bool) (n : ℕ) (slot : Slot) → (has n (steps_of plan slot) ≡ true → is_some (mirror_at plan n) ≡ false)
    → count (λ s. with_number D n s && is_some (mirror_at plan s)) (steps_of plan slot) ≡ count (λ s. D s && is_some (mirror_at plan s)) (steps_of plan slot)
mirrors_left plan D n slot never = count_same (λ s. D s && is_some (mirror_at plan s)) (λ s. with_number D n s && is_some (mirror_at plan s))
    (steps_of plan slot) (λ m i. elim (eqb_tells m n) [
      | inl t ↦
          both_off (with_number D n m) (D m) (is_some (mirror_at plan m))
          (subst (λ z. is_some (mirror_at plan z) ≡ false) (sym t.1) (never (subst (λ z. has z (steps_of plan slot) ≡ true) t.1 i)))
      | inr t ↦ rw t.0 refl
    ])

-- a mirror of the slot that is new makes it greater
pub mirrors_up : (plan : List Planned) (D : ℕ → Bool) (n : ℕ) (slot : Slot) → has n (steps_of plan slot) ≡ true → D n ≡ false
    → is_some (mirror_at plan n) ≡ true
    → count (λ s. D s && is_some (mirror_at plan s)) (steps_of plan slot) < count (λ s. with_number D n s && is_some (mirror_at plan s)) (steps_of plan slot)
mirrors_up plan D n slot i off on =
    count_less (λ s. D s && is_some (mirror_at plan s)) (λ s. with_number D n s && is_some (mirror_at plan s)) n (steps_of plan slot)
    (λ m g e. (let b = and_parts (D m) (is_some (mirror_at plan m)) e in and_from (with_number D n m) (is_some (mirror_at plan m))
    (or_right (m == n) (D m) b.0) b.1))
    i (rw off refl) (and_from (with_number D n n) (is_some (mirror_at plan n)) (rw (eq-eqb n n refl) refl) on)

-- if a step of the slot is ready, the slot's mirrors in front of it are finished
pub mirrors_ahead : (ring : RingValue) (plan : List Planned) → Known ring plan → (D : ℕ → Bool) (n : ℕ) (slot : Slot) → Closed plan D → Ready plan D n
    → has n (steps_of plan slot) ≡ true
    → mirrors_before plan slot n ≤ count (λ s. D s && is_some (mirror_at plan s)) (steps_of plan slot)
mirrors_ahead ring plan k D n slot c y h =
    count_in (λ s. nat_lt s n && is_some (mirror_at plan s)) (λ s. D s && is_some (mirror_at plan s)) (steps_of plan slot)
    (λ m i e. (let b = and_parts (nat_lt m n) (is_some (mirror_at plan m)) e in and_from (D m) (is_some (mirror_at plan m)) (ahead m i (ltb-true m n b.0)) b.1))
  where
    ss : List ℕ
    ss = steps_of plan slot

    ahead : (m : ℕ) → has m ss ≡ true → m < n → D m ≡ true
    ahead m i l =
        let p = found m ss i in
        let q = found n ss h in
        let at : get_or ss p.0 0 ≡ m = p.2 in
        let to : get_or ss q.0 0 ≡ n = q.2 in
        elim (cases_lt p.0 q.0) [
          | inl less ↦
              subst (λ z. D z ≡ true) at (before_ready plan D (get_or ss p.0 0) n c y
              (subst (λ z. Before plan (get_or ss p.0 0) z) to (in_turn ring plan k slot p.0 q.0 less q.1)))
          | inr more ↦ absurd (elim (cases_lt q.0 p.0) [
            | inl g ↦ (let r = rising ss (rises ring plan k slot) q.0 p.0 g p.1 in omega arith)
            | inr g ↦ (let s : p.0 ≡ q.0 = omega arith in let z : get_or ss p.0 0 ≡ get_or ss q.0 0 = ap (λ j. get_or ss j 0) s in omega arith)
          ])
        ]
