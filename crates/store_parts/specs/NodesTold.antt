-- What the nodes that are kept say of a world, each fact by itself.
use Rattle.std.specs.Prelude.{◌≡◌, ℕ, Bool, true, false, ◌&&◌, ◌||◌, List, length, Some, None, slice_get}
use Rattle.ring_table.specs.Value.{RingValue, is_member}
use Rattle.plan_text.specs.declared.step.Step.{Step}
use Rattle.plan_text.specs.declared.step.Step.TheVariants as step
use Rattle.plan_text.specs.declared.step.Planned.{Planned}
use Rattle.plan_text.specs.Steps.{is_join_of, is_retire_of}
use Rattle.plan_stage.specs.Each.{some_step, step_at}
use Rattle.plan_runs.specs.declared.event.Event.{Event}
use Rattle.plan_runs.specs.declared.event.Event.TheVariants.{Do, Down, Up}
use Rattle.plan_runs.specs.World.{World}
use Rattle.store_parts.specs.declared.nodes.NodeNow.{NodeNow}
use Rattle.store_parts.specs.Nodes.{is_up_at}

-- whether the node is kept as one that is `in` or has joined
abbrev pub is_joined_at : List NodeNow → ℕ → Bool
is_joined_at nodes x = elim (slice_get nodes x) [ Some now ↦ now.joined | None ↦ false ]

-- whether it is kept as one that has retired
abbrev pub is_retired_at : List NodeNow → ℕ → Bool
is_retired_at nodes x = elim (slice_get nodes x) [ Some now ↦ now.retired | None ↦ false ]

-- whether the node is `in` at the start or has joined
abbrev pub has_joined : RingValue → List Planned → World → ℕ → Bool
has_joined ring plan w x = is_member ring.nodes (record { 0 = x }) || some_step (λ n s. w.done n && is_join_of x s) 0 plan

-- whether it has retired
abbrev pub has_retired : List Planned → World → ℕ → Bool
has_retired plan w x = some_step (λ n s. w.done n && is_retire_of x s) 0 plan

-- each declared node is there; they tell which are up, which have joined and which have retired
pub record NodesTell (ring : RingValue) (plan : List Planned) (nodes : List NodeNow) (w : World) : Type 0 where
  pub each : length nodes ≡ length ring.nodes
  pub up : (x : ℕ) → is_up_at nodes x ≡ w.up x
  pub joined : (x : ℕ) → is_joined_at nodes x ≡ has_joined ring plan w x
  pub retired : (x : ℕ) → is_retired_at nodes x ≡ has_retired plan w x

-- whether the step leaves the nodes as they are: it joins none and retires none
abbrev pub step_leaves_nodes : Step → Bool
step_leaves_nodes (step.Join x) = false
step_leaves_nodes (step.Retire x) = false
step_leaves_nodes s = true

-- whether the event leaves them so
abbrev pub leaves_nodes : List Planned → Event → Bool
leaves_nodes plan (Do n) = elim (step_at plan n) [ Some s ↦ step_leaves_nodes s | None ↦ true ]
leaves_nodes plan (Down x) = false
leaves_nodes plan (Up x) = false
leaves_nodes plan e = true
