-- A member is a declared node.
use Rattle.std.proofs.Common.{◌≡◌, inl, inr, ℕ, zero, suc, ◌<◌, true, false, not, List, [], ◌∷◌, length, Some, None, arith, eqb-true, ltb-true}
use Rattle.std.specs.Prelude.{◌&&◌, ◌||◌, slice_get}
use Rattle.std.proofs.lemmas.Bool.{and_parts, or_cases as either}
use Rattle.ring_table.specs.declared.node.Node.{Node}
use Rattle.ring_table.specs.Value.{RingValue, is_member}
use Rattle.plan_text.specs.Valid.{Suits, is_declared}
use Rattle.plan_text.specs.declared.step.Step.{Step}
use Rattle.plan_text.specs.declared.step.Step.TheVariants.{Join, Mirror, Copy, Switch, Drop, Retire}
use Rattle.plan_text.specs.declared.step.Planned.{Planned}
use Rattle.plan_text.specs.Steps.{is_join_of, is_retire_of}
use Rattle.plan_stage.specs.Each.{step_at, some_step}
use Rattle.plan_runs.specs.World.{World, is_member_now}
use Rattle.plan_runs.proofs.Suited.{suits-at}
use Rattle.plan_stage.proofs.Truth.{some-met}

-- a member has a number below that of declared nodes
read_within : (nodes : List Node) (x : ℕ) → (elim (slice_get nodes x) [ Some node ↦ node.is_member | None ↦ false ]) ≡ true → x < length nodes
read_within [] x e = absurd cc
read_within (y ∷ ys) zero e = omega arith
read_within (y ∷ ys) (suc x) e = (let l = read_within ys x e in omega arith)

-- so has every node that is a member now, of a plan that suits the ring
pub member_within : (ring : RingValue) (plan : List Planned) (w : World) (x : ℕ) → Suits ring plan → is_member_now ring plan w x ≡ true
    → x < length ring.nodes
member_within ring plan w x suits h =
    let retired = some_step (λ n s. w.done n && is_retire_of x s) 0 plan in
    let joined = some_step (λ n s. w.done n && is_join_of x s) 0 plan in
    elim (either (is_member ring.nodes (record { 0 = x })) joined (and_parts (is_member ring.nodes (record { 0 = x }) || joined) (not retired) h).0) [
      | inl e ↦ read_within ring.nodes x e
      | inr e ↦ (let s = some-met (λ n t. w.done n && is_join_of x t) plan e in by s.0 s.1 s.2 (and_parts (w.done s.0) (is_join_of x s.1) s.3).1)
    ]
  where
    by : (n : ℕ) (s : Step) → step_at plan n ≡ Some s → is_join_of x s ≡ true → x < length ring.nodes
    by n (Join y) at e =
        let d = and_parts (is_declared ring y) (not (is_member ring.nodes y)) (suits-at ring plan suits.steps n (Join y) at) in
        let l = ltb-true y.0 (length ring.nodes) d.0 in
        let same = eqb-true x y.0 e in
        omega arith
    by n (Mirror s y) at e = absurd cc
    by n (Copy s from) at e = absurd cc
    by n (Switch s) at e = absurd cc
    by n (Drop s y) at e = absurd cc
    by n (Retire y) at e = absurd cc
