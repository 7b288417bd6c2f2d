-- The one step that retires a node, and what it asks.
use Rattle.std.proofs.Common.{◌≡◌, ℕ, ◌+◌, Bool, true, false, cond, List, [], ◌∷◌, ◌++◌, Option, Some, refl, sym, ◌∙◌}
use Rattle.std.specs.Prelude.{not, ◌||◌}
use Rattle.std.proofs.lemmas.Bool.{eqb-true, and_parts, or_parts, not-true}
use Rattle.ring_names.specs.Lists.{has, all_different}
use Rattle.ring_names.specs.declared.ids.NodeId.{NodeId}
use Rattle.ring_table.specs.Value.{RingValue}
use Rattle.plan_text.specs.declared.step.Step.{Step}
use Rattle.plan_text.specs.declared.step.Step.TheVariants.{Join, Mirror, Copy, Switch, Drop, Retire}
use Rattle.plan_text.specs.declared.step.Planned.{Planned}
use Rattle.plan_text.specs.Steps.{retires, retired, is_retire_of, first_step, retirement_of}
use Rattle.plan_stage.specs.Clauses.{Guard}
use Rattle.plan_stage.specs.Partition.{Test, steps_clauses}
use Rattle.plan_cover.specs.Clauses.{retire_clauses}
use Rattle.plan_cover.specs.Looking.Guards.{retirement_guards}

-- whether a step retires the node is asked of the first step, and of those behind it
in_front : (x : ℕ) (s : Step) (rest : List ℕ) → has x (retires s ++ rest) ≡ (is_retire_of x s || has x rest)
in_front x (Join y) rest = refl
in_front x (Mirror t y) rest = refl
in_front x (Copy t from) rest = refl
in_front x (Switch t) rest = refl
in_front x (Drop t y) rest = refl
in_front x (Retire y) rest = refl

behind : (s : Step) (rest : List ℕ) → all_different (retires s ++ rest) ≡ true → all_different rest ≡ true
behind (Retire y) rest h = (and_parts (not (has y.0 rest)) (all_different rest) h).1
behind (Mirror t y) rest h = h
behind (Copy t from) rest h = h
behind (Switch t) rest h = h
behind (Drop t y) rest h = h
behind (Join y) rest h = h

once : (x : ℕ) (s : Step) (rest : List ℕ) → all_different (retires s ++ rest) ≡ true → is_retire_of x s ≡ true → has x rest ≡ false
once x (Retire y) rest h is =
    let e : x ≡ y.0 = eqb-true x y.0 is in
    rw e (not-true (has y.0 rest) (and_parts (not (has y.0 rest)) (all_different rest) h).0)
once x (Mirror t y) rest h is = absurd cc
once x (Copy t from) rest h is = absurd cc
once x (Switch t) rest h is = absurd cc
once x (Drop t y) rest h is = absurd cc
once x (Join y) rest h is = absurd cc

none_retires : (ring : RingValue) (plan : List Planned) (O : Test) (x : NodeId) (n : ℕ) (ps : List Planned) → has x.0 (retired ps) ≡ false → steps_clauses (retire_clauses ring plan O x) n ps ≡ []
none_retires ring plan O x n [] h = refl
none_retires ring plan O x n (p ∷ ps) h =
    let two = or_parts (is_retire_of x.0 p.step) (has x.0 (retired ps)) (sym (in_front x.0 p.step (retired ps)) ∙ h) in
    rw (two.0, none_retires ring plan O x (n + 1) ps two.1) refl

asked_by : (ring : RingValue) (plan : List Planned) (O : Test) (x : NodeId) (b : Bool) (n : ℕ) (r : List Guard) (later : Option ℕ) → (b ≡ true → r ≡ []) → (b ≡ false → r ≡ retirement_guards ring plan O x later) → cond b (retirement_guards ring plan O x (Some n)) [] ++ r ≡ retirement_guards ring plan O x (cond b (Some n) later)
asked_by ring plan O x true n r later none rest = rw (none refl) refl
asked_by ring plan O x false n r later none rest = rest refl

first_asked : (ring : RingValue) (plan : List Planned) (O : Test) (x : NodeId) (n : ℕ) (ps : List Planned) → all_different (retired ps) ≡ true → steps_clauses (retire_clauses ring plan O x) n ps ≡ retirement_guards ring plan O x (first_step (is_retire_of x.0) n ps)
first_asked ring plan O x n [] h = refl
first_asked ring plan O x n (p ∷ ps) h =
    asked_by ring plan O x (is_retire_of x.0 p.step) n (steps_clauses (retire_clauses ring plan O x) (n + 1) ps) (first_step (is_retire_of x.0) (n + 1) ps)
    (λ is. none_retires ring plan O x (n + 1) ps (once x.0 p.step (retired ps) h is))
    (λ other. first_asked ring plan O x (n + 1) ps (behind p.step (retired ps) h))

-- if no node retires twice, the first step that retires the node asks all
pub retirement-asked : (ring : RingValue) (plan : List Planned) (O : Test) (x : NodeId) → all_different (retired plan) ≡ true → steps_clauses (retire_clauses ring plan O x) 0 plan ≡ retirement_guards ring plan O x (retirement_of plan x.0)
retirement-asked ring plan O x h = first_asked ring plan O x 0 plan h
