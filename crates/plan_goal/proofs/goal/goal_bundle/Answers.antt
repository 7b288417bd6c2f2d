use Rattle.std.proofs.Common.{◌≡◌, ◌∙◌, List, Some, map, sym, ap, subst}
use Rattle.ring_names.specs.declared.ids.NodeId.{NodeId}
use Rattle.ring_table.specs.Value.{RingValue}
use Rattle.plan_goal.specs.GoalsReached.{LeadsFrom, wanted_by}
use Rattle.plan_goal.proofs.Fronts.{of_both}
use Rattle.plan_goal.proofs.goal.goal_bundle.Goals as goal

pub returns : goal.returns
returns c =
    let g = c.in_ok-ring.field-0 in
    let dead = c.as_slice-2.result.now in
    let named = c.in_ok-nodes.ensures ∙ ap (λ (xs : List NodeId). map (λ x. Some x.0) xs) (sym c.as_slice-2.ensures.value) in
    let same : c.as_slice.result.now ≡ dead = c.as_slice.ensures.value ∙ sym c.as_slice-2.ensures.value in
    let wanted = c.in_ok-goal.ensures ∙ ap (λ (xs : List NodeId). wanted_by c.args.unreadable g.ring xs g.wanted) same in
    record {
      reached = of_both c.reach.result c.reach.ensures.ring c.reach.ensures.reached
          (λ p ring reached. (g, c.in_ok-ring.ensures.read, dead, named, subst (λ (v : RingValue). LeadsFrom g.ring v dead p) wanted (ring, reached)));
    }
