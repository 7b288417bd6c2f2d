use Rattle.std.proofs.Common.{◌≡◌, Bool, List, subst, true, arith}
use Rattle.plan_goal.specs.Sized.{is_flagged}
use Rattle.plan_around.proofs.Comparing.{not_both}
use Rattle.plan_around.proofs.alike.are_puts_alike.Goals as goal

pub loop-put-init : goal.loop-put-init
loop-put-init c = λ v f. absurd (not_both _ f (c.in_ok-marks.ensures v))

pub returns : goal.returns
returns c = λ t v l.
    let flagged = c.are_marked.ensures t v (let e = c.puts-puts.ensures.count in omega arith) in
    c.loop-put.invariant v (subst (λ (marks : List Bool). is_flagged marks v ≡ true) c.as_slice.ensures.value flagged)
