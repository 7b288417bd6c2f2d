-- The refusal of the least node that is down, of those that pass a test.
use Rattle.std.proofs.Common.{◌≡◌, inl, inr, ◌∙◌, ℕ, ◌<◌, Bool, true, false, List, [], ◌∷◌, map, refl, sym, ap, eqb-true}
use Rattle.std.specs.Prelude.{◌==◌, Option, Some, None, option_map}
use Rattle.std.proofs.lemmas.Bool.{or_right, or_cases, or_left}
use Rattle.ring_names.specs.Lists.{has}
use Rattle.ring_names.specs.declared.ids.NodeId.{NodeId}
use Rattle.ring_names.specs.declared.refusal.Refusal.TheVariants.{NodeDown}
use Rattle.texts.specs.Numbers.{ascending}
use Rattle.plan_stage.specs.Clauses.{first_failing}
use Rattle.plan_stage.proofs.Truth.{same}
use Rattle.plan_runs.specs.Guards.{nodes_up}
use Rattle.plan_runs.specs.World.{passing_below}
use Rattle.plan_runs.proofs.Passing.{below_is, is_below, passing_ascend}
use Rattle.store_parts.specs.LeastDown.{IsLeastDown}
use Rattle.plan_stage.proofs.Looking.{ascends-below}
use Rattle.plan_text.proofs.Searched.{ascends-tail}

-- where all these nodes are up none is refused
all_up : (up : ℕ → Bool) (xs : List ℕ) → ((x : ℕ) → has x xs ≡ true → up x ≡ true) → first_failing (map (λ x. (up x, NodeDown x)) xs) ≡ None
all_up up [] are = refl
all_up up (x ∷ xs) are = (let e = are x (or_left (x == x) (has x xs) (same x)) in rw e (all_up up xs (λ y h. are y (or_right (y == x) (has y xs) h))))

-- if a node is down and the ascending nodes before are up, that node is refused
first_down : (up : ℕ → Bool) (xs : List ℕ) (y : ℕ) → ascending xs ≡ true → has y xs ≡ true → up y ≡ false → ((x : ℕ) → x < y → has x xs ≡ true → up x ≡ true)
    → first_failing (map (λ x. (up x, NodeDown x)) xs) ≡ Some (NodeDown y)
first_down up [] y rise there down before = absurd cc
first_down up (x ∷ xs) y rise there down before =
    by (up x) refl (y == x) refl (λ h. first_down up xs y (ascends-tail x xs rise) h down (λ z l t. before z l (or_right (z == x) (has z xs) t)))
  where
    later : (y == x) ≡ false → has y xs ≡ true
    later apart = elim (or_cases (y == x) (has y xs) there) [ inl e ↦ absurd cc | inr e ↦ e ]

    by : (b : Bool) → up x ≡ b → (c : Bool) → (y == x) ≡ c → (has y xs ≡ true → first_failing (map (λ z. (up z, NodeDown z)) xs) ≡ Some (NodeDown y))
        → first_failing (map (λ z. (up z, NodeDown z)) (x ∷ xs)) ≡ Some (NodeDown y)
    by true e true f next = absurd (let is = eqb-true y x f in let g : up y ≡ true = ap up is ∙ e in cc)
    by true e false f next = rw e (next (later f))
    by false e true f next = (let is = eqb-true y x f in rw e (ap (λ (z : ℕ). Some (NodeDown z)) (sym is)))
    by false e false f next = absurd (let g = before x (ascends-below x xs rise y (later f)) (or_left (x == x) (has x xs) (same x)) in cc)

-- the nodes that pass the test are up, or the least that is down is refused
pub keepers_refused : (up : ℕ → Bool) (n : ℕ) (test : ℕ → Bool) (o : Option NodeId) → ((x : ℕ) → test x ≡ true → x < n) → IsLeastDown up test o
    → first_failing (nodes_up up n test) ≡ option_map (λ (y : NodeId). NodeDown y.0) o
keepers_refused up n test None within h = all_up up (passing_below n test) (λ x t. h x (below_is n test x t).1)
keepers_refused up n test (Some y) within h =
    first_down up (passing_below n test) y.0 (passing_ascend 0 n test) (is_below n test y.0 (within y.0 h.0) h.0) h.1 (λ x l t. h.2 x l (below_is n test x t).1)
