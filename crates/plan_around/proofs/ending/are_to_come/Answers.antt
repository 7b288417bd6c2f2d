use Rattle.std.proofs.Common.{ℕ, ◌≤◌, below_more, length, ap, arith}
use Rattle.std.proofs.lemmas.Option.{slice_get_within}
use Rattle.plan_runs.specs.World.{World}
use Rattle.plan_text.specs.Steps.{steps_of}
use Rattle.ring_core.specs.World.{Meets}
use Rattle.plan_around.specs.Ends.{IsUnswitched}
use Rattle.plan_around.proofs.ending.are_to_come.Goals as goal

pub loop-later-init : goal.loop-later-init
loop-later-init c = λ i l g. absurd (omega arith)

pub loop-later-preserved : goal.loop-later-preserved
loop-later-preserved c =
    below_more (λ (i : ℕ). c.args.place ≤ i → (w : World) → Meets c.args.before.now w → IsUnswitched c.args.plan.now w c.args.slot i) c.loop-later.later c.loop-later.invariant
    (λ g. c.is_unswitched_at.ensures c.if-not-is_unswitched_at.false)

pub returns : goal.returns
returns c = λ t w m i g k e f.
    let l = slice_get_within (steps_of c.args.plan.now c.args.slot) i k e in
    let n = ap length c.slot_steps-count.ensures.value in
    let b = c.loop-later-test.false in
    c.loop-later.invariant i (omega arith) g w m k e f
