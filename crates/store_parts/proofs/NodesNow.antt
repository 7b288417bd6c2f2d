-- The nodes that are kept go on to tell the nodes of a world.
use Rattle.std.proofs.Common.{◌≡◌, ◌∙◌, ℕ, ◌<◌, Bool, true, false, not, List, length, map, refl, sym, ap, arith}
use Rattle.std.specs.Prelude.{◌==◌, ◌&&◌, ◌||◌, Option, Some, None, slice_get, option_map, option_and_then, is_some}
use Rattle.std.proofs.lemmas.List.{length-map}
use Rattle.std.proofs.lemmas.Option.{slice_get-map}
use Rattle.ring_names.specs.declared.ids.NodeId.{NodeId}
use Rattle.ring_table.specs.declared.node.Node.{Node}
use Rattle.ring_table.specs.Value.{RingValue, is_member}
use Rattle.plan_text.specs.declared.step.Step.{Step}
use Rattle.plan_text.specs.declared.step.Step.TheVariants as step
use Rattle.plan_text.specs.declared.step.Planned.{Planned}
use Rattle.plan_text.specs.Steps.{is_join_of, is_retire_of, copy_of}
use Rattle.plan_text.specs.Valid.{Suits}
use Rattle.plan_stage.specs.Each.{some_step, step_at, passes}
use Rattle.plan_stage.specs.Clauses.{first_failing}
use Rattle.plan_runs.specs.declared.event.Event.{Event}
use Rattle.plan_runs.specs.declared.event.Event.TheVariants.{Do, CloseCopy, Down, Up}
use Rattle.plan_runs.specs.World.{World, opening_world, is_member_now}
use Rattle.plan_runs.specs.Guards.{guards}
use Rattle.plan_runs.specs.Effects.{changed, with_number, without_number, step_effect, effect}
use Rattle.plan_runs.proofs.Changed.{length_changed, part_changed}
use Rattle.plan_runs.proofs.Frames.{done_is}
use Rattle.plan_runs.proofs.Passed.{all_met}
use Rattle.plan_runs.proofs.Suited.{retires-within}
use Rattle.store_parts.specs.declared.nodes.NodeNow.{NodeNow}
use Rattle.store_parts.specs.Nodes.{node_at_start, is_up_at}
use Rattle.store_parts.specs.NodesMeet.{NodesMeet}
use Rattle.store_parts.specs.NodesTold.{is_joined_at, is_retired_at, has_joined, NodesTell, step_leaves_nodes, leaves_nodes}
use Rattle.store_parts.proofs.NodesRead.{read_within, read_with, read_without}
use Rattle.store_parts.proofs.StageSuits.{joins_within}
use Rattle.store_parts.proofs.NodesDone.{none_done, some_with, some_without}
use Rattle.ring_names.proofs.Logic.{or_swapped}

-- nodes that tell each fact by itself meet the world
pub nodes_meet : (ring : RingValue) (plan : List Planned) (nodes : List NodeNow) (w : World) → NodesTell ring plan nodes w → NodesMeet ring plan nodes w
nodes_meet ring plan nodes w t = record { up = t.up; members = λ x. ap (λ (b : Bool). b) (by (slice_get nodes x)) ∙ both x }
  where
    by : (o : Option NodeNow) → (elim o [ Some now ↦ now.joined && not now.retired | None ↦ false ]) ≡ ((elim o [ Some now ↦ now.joined | None ↦ false ]) && not (elim o [ Some now ↦ now.retired | None ↦ false ]))
    by None = refl
    by (Some now) = refl

    both : (x : ℕ) → (is_joined_at nodes x && not (is_retired_at nodes x)) ≡ is_member_now ring plan w x
    both x = rw (t.joined x, t.retired x) refl

-- before the first step the nodes that start tell the nodes of the opening world
pub nodes_start : (ring : RingValue) (plan : List Planned) (nodes : List NodeNow) → nodes ≡ map node_at_start ring.nodes → NodesTell ring plan nodes (opening_world ring)
nodes_start ring plan nodes is = record {
  each = rw (is, length-map) refl;
  up = λ x. rw (is, slice_get-map node_at_start ring.nodes x, is_up_at) (up x (slice_get ring.nodes x));
  joined = λ x. rw (is, slice_get-map node_at_start ring.nodes x, is_joined_at, none_done (is_join_of x) 0 plan) (joined x (slice_get ring.nodes x));
  retired = λ x. rw (is, slice_get-map node_at_start ring.nodes x, is_retired_at, none_done (is_retire_of x) 0 plan) (retired x (slice_get ring.nodes x));
}
  where
    up : (x : ℕ) (o : Option Node) → ◌≡◌ {A = Bool} (elim (option_map node_at_start o) [ Some now ↦ now.up | None ↦ false ]) (elim o [ Some node ↦ node.is_member | None ↦ false ])
    up x None = refl
    up x (Some y) = refl

    joined : (x : ℕ) (o : Option Node) → ◌≡◌ {A = Bool} (elim (option_map node_at_start o) [ Some now ↦ now.joined | None ↦ false ]) ((elim o [ Some node ↦ node.is_member | None ↦ false ]) || false)
    joined x None = refl
    joined x (Some y) = by y.is_member
      where
        by : (b : Bool) → b ≡ (b || false)
        by true = refl
        by false = refl

    retired : (x : ℕ) (o : Option Node) → ◌≡◌ {A = Bool} (elim (option_map node_at_start o) [ Some now ↦ now.retired | None ↦ false ]) false
    retired x None = refl
    retired x (Some y) = refl

-- ---- nodes that change

-- a member is declared
declared : (ring : RingValue) (plan : List Planned) (nodes : List NodeNow) (w : World) → NodesTell ring plan nodes w → (x : ℕ) → is_member_now ring plan w x ≡ true → x < length nodes
declared ring plan nodes w t x h = read_within (λ (now : NodeNow). now.joined && not now.retired) nodes x ((nodes_meet ring plan nodes w t).members x ∙ h)

-- a member that is down
pub nodes_down : (ring : RingValue) (plan : List Planned) (w : World) (x : NodeId) (old new : List NodeNow) → NodesTell ring plan old w → new ≡ changed old x.0 (λ a. record a { up = false })
    → NodesTell ring plan new (effect ring plan w (Down x))
unfolding effect
nodes_down ring plan w x old new t is = rw is (record {
  each = length_changed old x.0 _ ∙ t.each;
  up = λ y. read_without (λ (a : NodeNow). a.up) old x.0 (λ a. record a { up = false }) (λ a. refl) y ∙ ap (λ (b : Bool). not (y == x.0) && b) (t.up y);
  joined = λ y. part_changed (λ (a : NodeNow). a.joined) false old x.0 (λ a. record a { up = false }) (λ a. refl) y ∙ t.joined y;
  retired = λ y. part_changed (λ (a : NodeNow). a.retired) false old x.0 (λ a. record a { up = false }) (λ a. refl) y ∙ t.retired y;
})

-- and one that is up again
pub nodes_up : (ring : RingValue) (plan : List Planned) (w : World) (x : NodeId) (old new : List NodeNow) → NodesTell ring plan old w → first_failing (guards ring plan w (Up x)) ≡ None
    → new ≡ changed old x.0 (λ a. record a { up = true }) → NodesTell ring plan new (effect ring plan w (Up x))
unfolding guards effect
nodes_up ring plan w x old new t g is = rw is (record {
  each = length_changed old x.0 _ ∙ t.each;
  up = λ y. read_with (λ (a : NodeNow). a.up) old x.0 (λ a. record a { up = true }) (declared ring plan old w t x.0 (all_met (guards ring plan w (Up x)) g).0) (λ a. refl) y ∙ ap (λ (b : Bool). (y == x.0) || b) (t.up y);
  joined = λ y. part_changed (λ (a : NodeNow). a.joined) false old x.0 (λ a. record a { up = true }) (λ a. refl) y ∙ t.joined y;
  retired = λ y. part_changed (λ (a : NodeNow). a.retired) false old x.0 (λ a. record a { up = true }) (λ a. refl) y ∙ t.retired y;
})

-- ---- steps

-- a step that joins the node
pub nodes_join : (ring : RingValue) (plan : List Planned) (w : World) (n : ℕ) (x : NodeId) (old new : List NodeNow) → Suits ring plan → step_at plan n ≡ Some (step.Join x) → NodesTell ring plan old w
    → new ≡ changed old x.0 (λ a. record a { up = true; joined = true }) → NodesTell ring plan new (effect ring plan w (Do n))
nodes_join ring plan w n x old new suits at t is = rw (done_is ring plan w n (step.Join x) at, is) (record {
  each = length_changed old x.0 _ ∙ t.each;
  up = λ y. read_with (λ (a : NodeNow). a.up) old x.0 (λ a. record a { up = true; joined = true }) here (λ a. refl) y ∙ ap (λ (b : Bool). (y == x.0) || b) (t.up y);
  joined = λ y. read_with (λ (a : NodeNow). a.joined) old x.0 (λ a. record a { up = true; joined = true }) here (λ a. refl) y ∙ ap (λ (b : Bool). (y == x.0) || b) (t.joined y) ∙ joined y;
  retired = λ y. part_changed (λ (a : NodeNow). a.retired) false old x.0 (λ a. record a { up = true; joined = true }) (λ a. refl) y ∙ t.retired y
      ∙ sym (some_without w.done n (is_retire_of y) plan (step.Join x) at refl);
})
  where
    here : x.0 < length old
    here = (let l = joins_within ring plan suits n x at in let e = t.each in omega arith)

    joined : (y : ℕ) → ((y == x.0) || has_joined ring plan w y) ≡ has_joined ring plan (record w { done = with_number w.done n; up = with_number w.up x.0 }) y
    joined y = or_swapped (y == x.0) (is_member ring.nodes (record { 0 = y })) (some_step (λ m s. w.done m && is_join_of y s) 0 plan)
        ∙ sym (rw (some_with w.done n (is_join_of y) plan, at, passes) refl)

-- one that retires it
pub nodes_retire : (ring : RingValue) (plan : List Planned) (w : World) (n : ℕ) (x : NodeId) (old new : List NodeNow) → Suits ring plan → step_at plan n ≡ Some (step.Retire x) → NodesTell ring plan old w
    → new ≡ changed old x.0 (λ a. record a { retired = true }) → NodesTell ring plan new (effect ring plan w (Do n))
nodes_retire ring plan w n x old new suits at t is = rw (done_is ring plan w n (step.Retire x) at, is) (record {
  each = length_changed old x.0 _ ∙ t.each;
  up = λ y. part_changed (λ (a : NodeNow). a.up) false old x.0 (λ a. record a { retired = true }) (λ a. refl) y ∙ t.up y;
  joined = λ y. part_changed (λ (a : NodeNow). a.joined) false old x.0 (λ a. record a { retired = true }) (λ a. refl) y ∙ t.joined y
      ∙ ap (λ (b : Bool). is_member ring.nodes (record { 0 = y }) || b) (sym (some_without w.done n (is_join_of y) plan (step.Retire x) at refl));
  retired = λ y. read_with (λ (a : NodeNow). a.retired) old x.0 (λ a. record a { retired = true }) here (λ a. refl) y ∙ ap (λ (b : Bool). (y == x.0) || b) (t.retired y)
      ∙ sym (rw (some_with w.done n (is_retire_of y) plan, at, passes) refl);
})
  where
    here : x.0 < length old
    here = (let l = retires-within ring plan suits n x at in let e = t.each in omega arith)

-- ---- nodes that stay

-- nothing that they tell changes
same_nodes : (ring : RingValue) (plan : List Planned) (nodes : List NodeNow) (w u : World) → u.up ≡ w.up → u.done ≡ w.done → NodesTell ring plan nodes w → NodesTell ring plan nodes u
same_nodes ring plan nodes w u up done t = record {
  each = t.each;
  up = λ x. t.up x ∙ ap (λ (f : ℕ → Bool). f x) (sym up);
  joined = λ x. t.joined x ∙ ap (λ (f : ℕ → Bool). is_member ring.nodes (record { 0 = x }) || some_step (λ m s. f m && is_join_of x s) 0 plan) (sym done);
  retired = λ x. t.retired x ∙ ap (λ (f : ℕ → Bool). some_step (λ m s. f m && is_retire_of x s) 0 plan) (sym done);
}

-- a step is done that neither joins nor retires a node
other_done : (ring : RingValue) (plan : List Planned) (nodes : List NodeNow) (w u : World) (n : ℕ) (s : Step) → step_at plan n ≡ Some s → ((x : ℕ) → is_join_of x s ≡ false) → ((x : ℕ) → is_retire_of x s ≡ false)
    → u.up ≡ w.up → u.done ≡ with_number w.done n → NodesTell ring plan nodes w → NodesTell ring plan nodes u
other_done ring plan nodes w u n s at join retire up done t = same_nodes ring plan nodes (record w { done = with_number w.done n }) u up done (record {
  each = t.each;
  up = t.up;
  joined = λ x. t.joined x ∙ ap (λ (b : Bool). is_member ring.nodes (record { 0 = x }) || b) (sym (some_without w.done n (is_join_of x) plan s at (join x)));
  retired = λ x. t.retired x ∙ sym (some_without w.done n (is_retire_of x) plan s at (retire x));
})

do_stays : (ring : RingValue) (plan : List Planned) (nodes : List NodeNow) (w : World) (n : ℕ) (o : Option Step) → step_at plan n ≡ o → (elim o [ Some s ↦ step_leaves_nodes s | None ↦ true ]) ≡ true → NodesTell ring plan nodes w
    → NodesTell ring plan nodes (elim o [ Some s ↦ step_effect (record w { done = with_number w.done n }) s | None ↦ w ])
do_stays ring plan nodes w n None at h t = t
do_stays ring plan nodes w n (Some (step.Join x)) at h t = absurd cc
do_stays ring plan nodes w n (Some (step.Retire x)) at h t = absurd cc
do_stays ring plan nodes w n (Some s) at h t = other_done ring plan nodes w _ n s at (λ y. refl) (λ y. refl) refl refl t

-- a copy is finished
closed : (ring : RingValue) (plan : List Planned) (nodes : List NodeNow) (w : World) (n : ℕ) (o : Option Step) → step_at plan n ≡ o → is_some (option_and_then copy_of o) ≡ true → NodesTell ring plan nodes w
    → NodesTell ring plan nodes (record w { is_open = without_number w.is_open n; done = with_number w.done n })
closed ring plan nodes w n (Some (step.Copy s from)) at h t = other_done ring plan nodes w _ n (step.Copy s from) at (λ y. refl) (λ y. refl) refl refl t
closed ring plan nodes w n o at h t = absurd cc

-- an event that leaves the nodes as they are
pub nodes_stay : (ring : RingValue) (plan : List Planned) (nodes : List NodeNow) (w : World) (e : Event) → leaves_nodes plan e ≡ true → first_failing (guards ring plan w e) ≡ None → NodesTell ring plan nodes w
    → NodesTell ring plan nodes (effect ring plan w e)
unfolding guards effect
nodes_stay ring plan nodes w (Do n) h g t = do_stays ring plan nodes w n (step_at plan n) refl h t
nodes_stay ring plan nodes w (CloseCopy n) h g t = closed ring plan nodes w n (step_at plan n) refl (all_met (guards ring plan w (CloseCopy n)) g).0 t
nodes_stay ring plan nodes w (Down x) h g t = absurd cc
nodes_stay ring plan nodes w (Up x) h g t = absurd cc
nodes_stay ring plan nodes w e h g t = same_nodes ring plan nodes w _ refl refl t

-- a step that leaves the nodes as they are
pub nodes_stay_do : (ring : RingValue) (plan : List Planned) (nodes : List NodeNow) (w : World) (n : ℕ) (s : Step) → step_at plan n ≡ Some s → step_leaves_nodes s ≡ true
    → first_failing (guards ring plan w (Do n)) ≡ None → NodesTell ring plan nodes w → NodesTell ring plan nodes (effect ring plan w (Do n))
nodes_stay_do ring plan nodes w n s at h g t = nodes_stay ring plan nodes w (Do n) (ap (λ (o : Option Step). elim o as (λ _. Bool) [ Some x ↦ step_leaves_nodes x | None ↦ true ]) at ∙ h) g t
