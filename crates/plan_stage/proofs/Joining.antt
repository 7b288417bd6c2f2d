-- The one step that joins a node.
use Rattle.std.proofs.Common.{◌≡◌, ℕ, ◌+◌, Bool, true, false, cond, List, [], ◌∷◌, ◌++◌, Option, Some, None, refl, sym, ◌∙◌}
use Rattle.std.specs.Prelude.{not, ◌&&◌, ◌||◌}
use Rattle.std.proofs.lemmas.Bool.{eqb-true, and_parts, or_parts, not-true}
use Rattle.ring_names.specs.Lists.{has, all_different}
use Rattle.ring_names.proofs.Logic.{or_false}
use Rattle.plan_text.specs.declared.step.Step.{Step}
use Rattle.plan_text.specs.declared.step.Step.TheVariants.{Join, Mirror, Copy, Switch, Drop, Retire}
use Rattle.plan_text.specs.declared.step.Planned.{Planned}
use Rattle.plan_text.specs.Steps.{joins, joined, is_join_of, first_step, join_of}
use Rattle.plan_stage.specs.Each.{some_step}
use Rattle.plan_stage.specs.Partition.{Test}

-- the first step that joins the node, if there is one, comes before step t
abbrev pub comes_before : Test → Option ℕ → ℕ → Bool
comes_before O None t = false
comes_before O (Some j) t = O j t

-- whether a step joins the node is asked of the first step, and of those behind it
in_front : (x : ℕ) (s : Step) (rest : List ℕ) → has x (joins s ++ rest) ≡ (is_join_of x s || has x rest)
in_front x (Join y) rest = refl
in_front x (Mirror t y) rest = refl
in_front x (Copy t from) rest = refl
in_front x (Switch t) rest = refl
in_front x (Drop t y) rest = refl
in_front x (Retire y) rest = refl

behind : (s : Step) (rest : List ℕ) → all_different (joins s ++ rest) ≡ true → all_different rest ≡ true
behind (Join y) rest h = (and_parts (not (has y.0 rest)) (all_different rest) h).1
behind (Mirror t y) rest h = h
behind (Copy t from) rest h = h
behind (Switch t) rest h = h
behind (Drop t y) rest h = h
behind (Retire y) rest h = h

once : (x : ℕ) (s : Step) (rest : List ℕ) → all_different (joins s ++ rest) ≡ true → is_join_of x s ≡ true → has x rest ≡ false
once x (Join y) rest h is =
    let e : x ≡ y.0 = eqb-true x y.0 is in
    rw e (not-true (has y.0 rest) (and_parts (not (has y.0 rest)) (all_different rest) h).0)
once x (Mirror t y) rest h is = absurd cc
once x (Copy t from) rest h is = absurd cc
once x (Switch t) rest h is = absurd cc
once x (Drop t y) rest h is = absurd cc
once x (Retire y) rest h is = absurd cc

none_joins : (O : Test) (x t n : ℕ) (plan : List Planned) → has x (joined plan) ≡ false → some_step (λ j s. is_join_of x s && O j t) n plan ≡ false
none_joins O x t n [] h = refl
none_joins O x t n (p ∷ ps) h =
    let two = or_parts (is_join_of x p.step) (has x (joined ps)) (sym (in_front x p.step (joined ps)) ∙ h) in
    rw (two.0, none_joins O x t (n + 1) ps two.1) refl

step_by : (b o r : Bool) (n t : ℕ) (O : Test) (later : Option ℕ) → o ≡ O n t → (b ≡ true → r ≡ false) → (b ≡ false → r ≡ comes_before O later t) → ((b && o) || r) ≡ comes_before O (cond b (Some n) later) t
step_by true o r n t O later is none rest = rw (none refl) (or_false o ∙ is)
step_by false o r n t O later is none rest = rest refl

joins_first : (O : Test) (x t n : ℕ) (plan : List Planned) → all_different (joined plan) ≡ true → some_step (λ j s. is_join_of x s && O j t) n plan ≡ comes_before O (first_step (is_join_of x) n plan) t
joins_first O x t n [] h = refl
joins_first O x t n (p ∷ ps) h =
    step_by (is_join_of x p.step) (O n t) (some_step (λ j s. is_join_of x s && O j t) (n + 1) ps) n t O (first_step (is_join_of x) (n + 1) ps) refl
    (λ is. none_joins O x t (n + 1) ps (once x p.step (joined ps) h is))
    (λ other. joins_first O x t (n + 1) ps (behind p.step (joined ps) h))

-- if no node joins twice, some step joins the node before step t exactly if the first one does
pub joins-join_of : (O : Test) (plan : List Planned) (x t : ℕ) → all_different (joined plan) ≡ true → some_step (λ j s. is_join_of x s && O j t) 0 plan ≡ comes_before O (join_of plan x) t
joins-join_of O plan x t h = joins_first O x t 0 plan h
