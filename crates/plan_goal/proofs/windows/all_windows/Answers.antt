use Rattle.std.proofs.Common.{◌∷◌, [], ◌++◌, subst, sym}
use Rattle.ring_table.specs.Value.{RingValue}
use Rattle.plan_goal.specs.Windows.{AreWindows, no_window, one_more}
use Rattle.plan_goal.proofs.windows.all_windows.Goals as goal

pub loop-plan-init : goal.loop-plan-init
loop-plan-init c = ([], no_window, c.new-asked.ensures)

pub loop-plan-preserved : goal.loop-plan-preserved
loop-plan-preserved c =
    let w = c.in_ok-window.window in
    let plan = c.in-Some.plan in
    let kept = c.loop-plan.invariant in
    let texts = kept.0 ++ w.text.items ∷ [] in
    let more = one_more kept.0 c.loop-plan.yielded c.loop-plan.next w.text.items plan kept.1 c.in_ok-window.ensures.window in (
      texts,
      subst (λ (r : RingValue). AreWindows c.args.first texts (c.loop-plan.yielded ++ plan ∷ []) r) (sym c.in_ok-window.ensures.next) more,
      c.in_ok-asked.ensures c.args.only kept.0 kept.2,
    )
