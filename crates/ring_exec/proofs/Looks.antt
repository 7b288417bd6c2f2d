-- What a look at a store under the lock shows.
use Rattle.std.proofs.Common.{◌≡◌, ◌∙◌, ◌<◌, ◌≤◌, ℕ, Bool, true, false, List, [], ◌∷◌, length, refl, sym, ap, subst, arith, eqb-true, eq-eqb, lt-ltb}
use Rattle.std.proofs.Props.{props}
use Rattle.std.specs.Prelude.{not, ◌↔◌, ◌==◌, IsTrue, Option, Some, None, IfSome}
use Rattle.ring_names.specs.declared.ids.NodeId.{NodeId}
use Rattle.ring_names.specs.declared.ids.Slot.{Slot}
use Rattle.ring_names.specs.Lists.{has}
use Rattle.ring_table.specs.Value.{RingValue}
use Rattle.plan_text.specs.declared.step.Planned.{Planned}
use Rattle.plan_text.specs.Valid.{is_ring_slot}
use Rattle.plan_runs.specs.World.{World as TheWorld, keeps, key_of_put, passing_below}
use Rattle.plan_runs.proofs.Passing.{some_found, is_below, below_is}
use Rattle.plan_runs.proofs.Places.{partition_within}
use Rattle.ring_core.proofs.Counting.{count_most}
use Rattle.ring_core.specs.Parts.{kept_of}
use Rattle.ring_core.proofs.KeepersDeclared.{keeper_within}
use Rattle.ring_core.proofs.StoreInWorld.{holds, reached_of}
use Rattle.ring_core.specs.declared.world.World.{World}
use Rattle.ring_core.specs.World.{ring_of, plan_of, Meets}
use Rattle.ring_core.specs.Tables.{left_of, IsNextStep, AllDone}

-- the step that could begin is one of the plan's
pub next_within : (a : World) (plan : List Planned) (from : ℕ) (o : Option ℕ) → plan_of a ≡ plan
    → IfSome o (λ n. (w : TheWorld) → Meets a w → IsNextStep (plan_of a) w from n) → IfSome o (λ n. (from ≤ n) × (n < length plan))
next_within a plan from None is next = tt
next_within a plan from (Some n) is next =
    subst (λ (p : List Planned). (from ≤ n) × (n < length p)) is (holds a.parts a.sound (hlevel props) (λ w m. ((next w m).0, (next w m).1)))

-- no more steps are left than the plan has
pub left_within : (a : World) (plan : List Planned) (n : ℕ) → plan_of a ≡ plan → ((w : TheWorld) → Meets a w → n ≡ left_of (plan_of a) w) → n ≤ length plan
left_within a plan n is left =
    subst (λ (p : List Planned). n ≤ length p) is (holds a.parts a.sound (hlevel props) (λ w m. (let e = left w m in let most = count_most (length (plan_of a)) (λ k. not (w.done k)) in omega arith)))

-- ---- hints

-- a node that keeps a hint is one of the ring's, and so is the slot
kept_within : (a : World) (w : TheWorld) (x : ℕ) (slot : Slot) → Meets a w → keeps w x slot ≡ true → (x < length (ring_of a).nodes) × (is_ring_slot (ring_of a) slot ≡ true)
kept_within a w x slot m e =
    let ring = ring_of a in
    let kept = kept_of a.parts in
    let f = some_found (length w.puts) (λ v. w.hinted x slot v) e in
    let of = (reached_of ring (plan_of a) kept w m).hinted x slot f.0 f.2 in
    let lies : slot.partition < ring.q = subst (λ (p : ℕ). p < ring.q) of.1 (partition_within ring.q (key_of_put w f.0) m.is_ring.space) in
    let index : slot.index < ring.n = m.hints x slot f.0 f.2 in
    (keeper_within ring (plan_of a) kept w m x slot f.0 f.2, rw (lt-ltb slot.partition ring.q lies, lt-ltb slot.index ring.n index) refl)

-- what is found to be kept is the ring's
pub hint_within : (a : World) (ring : RingValue) (o : Option (NodeId × Slot)) → ring_of a ≡ ring
    → IfSome o (λ pair. (w : TheWorld) → Meets a w → keeps w pair.0.0 pair.1 ≡ true) → IfSome o (λ pair. (pair.0.0 < length ring.nodes) × (is_ring_slot ring pair.1 ≡ true))
hint_within a ring None is found = tt
hint_within a ring (Some pair) is found =
    subst (λ (r : RingValue). (pair.0.0 < length r.nodes) × (is_ring_slot r pair.1 ≡ true)) is
    (holds a.parts a.sound (hlevel props) (λ w m. kept_within a w pair.0.0 pair.1 m (found w m)))

-- ---- the end

-- where none is left every step is done, and where every step is none is left
all_done : (plan : List Planned) (w : TheWorld) → left_of plan w ≡ 0 → AllDone plan w
all_done plan w none n l = by (w.done n) refl
  where
    by : (b : Bool) → w.done n ≡ b → w.done n ≡ true
    by true e = e
    by false e = absurd (some (passing_below (length plan) (λ k. not (w.done k))) (is_below (length plan) (λ k. not (w.done k)) n l (ap not e)) none)
      where
        some : (xs : List ℕ) → has n xs ≡ true → length xs ≡ 0 → ⊥
        some [] h z = absurd cc
        some (x ∷ xs) h z = omega arith

none_left : (plan : List Planned) (w : TheWorld) → AllDone plan w → left_of plan w ≡ 0
none_left plan w all = by (passing_below (length plan) (λ k. not (w.done k))) refl
  where
    by : (xs : List ℕ) → passing_below (length plan) (λ k. not (w.done k)) ≡ xs → length (passing_below (length plan) (λ k. not (w.done k))) ≡ 0
    by [] e = ap length e
    by (x ∷ xs) e = absurd (
        let b = below_is (length plan) (λ k. not (w.done k)) x (subst (λ (ys : List ℕ). has x ys ≡ true) (sym e) (first x xs)) in
        let d = all x b.0 in
        cc)
      where
        first : (y : ℕ) (ys : List ℕ) → has y (y ∷ ys) ≡ true
        first y ys = rw (eq-eqb y y refl) refl

pub finished_there : (a : World) (plan : List Planned) (n : ℕ) (b : Bool) → plan_of a ≡ plan → ((w : TheWorld) → Meets a w → n ≡ left_of (plan_of a) w) → b ≡ (n == 0)
    → (w : TheWorld) → Meets a w → IsTrue b ↔ AllDone plan w
finished_there a plan n b is left answer w m =
    subst (λ (p : List Planned). IsTrue b ↔ AllDone p w) is (
      (λ t. all_done (plan_of a) w (sym (left w m) ∙ eqb-true n 0 (sym answer ∙ t))),
      (λ all. (let z : n ≡ 0 = left w m ∙ none_left (plan_of a) w all in rw (answer, z) refl)),
    )
