use Rattle.std.specs.Global.{Vec}
use Rattle.std.proofs.Common.{ℕ, ◌≡◌, ◌∙◌, List, Some, map, sym, ap, subst}
use Rattle.ring_names.specs.Names.{place}
use Rattle.ring_names.specs.declared.ids.NodeId.{NodeId}
use Rattle.ring_table.specs.Value.{RingValue, names_of}
use Rattle.change_text.specs.declared.change.Change.{Change}
use Rattle.plan_goal.specs.GoalsReached.{HasChangedMembers, IsSizedAsAsked, LeadsFrom, wanted_by, with_dead}
use Rattle.plan_goal.proofs.Fronts.{of_both}
use Rattle.plan_goal.proofs.goal.wish_bundle.Goals as goal

pub returns : goal.returns
returns c =
    let w = c.in_ok-ring.field-0 in
    let wanted = c.in_ok-wanted.wanted in
    let names = ap (λ (xs : List (Vec ℕ)). map (λ name. name.items) xs) c.as_slice.ensures.value ∙ c.in_ok-dead.ensures in
    let named = ap (λ (ns : List (List ℕ)). map (place (names_of w.ring)) ns) (sym names) ∙ c.in_ok-nodes.ensures
    ∙ ap (λ (xs : List NodeId). map (λ x. Some x.0) xs) (sym c.as_slice-4.ensures.value) in
    let same : c.as_slice-2.result.now ≡ c.as_slice-4.result.now = c.as_slice-2.ensures.value ∙ sym c.as_slice-4.ensures.value in
    let changed = subst (λ (change : Change). HasChangedMembers w.ring change wanted) c.in_ok-change.ensures c.in_ok-wanted.ensures in
    let around = subst (λ (dead : List NodeId). HasChangedMembers w.ring (with_dead w.ring dead w.change) wanted) same changed in
    let by-change = subst (λ (change : Change). IsSizedAsAsked c.args.options.now w.ring change wanted) c.in_ok-change.ensures c.in_ok-ask_sized.ensures in
    let sized = subst (λ (dead : List NodeId). IsSizedAsAsked c.args.options.now w.ring (with_dead w.ring dead w.change) wanted) same by-change in
    let read : c.as_slice-3.result.now ≡ c.as_slice-4.result.now = c.as_slice-3.ensures.value ∙ sym c.as_slice-4.ensures.value in
    let goal = c.in_ok-goal.ensures ∙ ap (λ (dead : List NodeId). wanted_by c.args.options.now.unreadable w.ring dead wanted) read in
    record {
      reached = of_both c.reach.result c.reach.ensures.ring c.reach.ensures.reached
          (λ p ring reached. (w, c.in_ok-ring.ensures.read, wanted, c.as_slice-4.result.now, named, around, sized, subst (λ (v : RingValue). LeadsFrom w.ring v c.as_slice-4.result.now p) goal (ring, reached)));
    }
