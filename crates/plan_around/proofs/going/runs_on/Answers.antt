use Rattle.std.proofs.Common.{List, refl, subst}
use Rattle.std.proofs.Math.Logic.{∥∥₁_map}
use Rattle.std.proofs.lemmas.Result.{IfOk-weaker}
use Rattle.ring_names.specs.declared.ids.Slot.{Slot}
use Rattle.ring_table.specs.Value.{RingValue}
use Rattle.plan_text.specs.declared.step.Planned.{Planned}
use Rattle.plan_runs.specs.declared.back.Back.{Back}
use Rattle.ring_core.specs.World.{plan_of}
use Rattle.plan_around.specs.Alike.{AreAlike, InBoth}
use Rattle.plan_around.specs.Apart.{AreApart}
use Rattle.plan_around.proofs.Comparing.{led}
use Rattle.plan_around.proofs.going.runs_on.Goals as goal

pub returns-clause-apart : goal.returns-clause-apart
returns-clause-apart c = IfOk-weaker c.are_apart.result _ _
    (λ b apart t. ∥∥₁_map c.requires.led.replays (λ x. (
      x.0,
      x.2,
      subst (λ (ring : RingValue). AreApart ring c.args.approved.now.plan c.args.it.now.dead.now x.0) c.ring-ring.ensures.value
          (subst (λ (plan : List Planned). AreApart c.ring-ring.result.now plan c.args.it.now.dead.now x.0) c.plan-plan.ensures.value (apart t x.0 x.1)),
    )))
    c.are_apart.ensures.apart

pub returns-clause-alike : goal.returns-clause-alike
returns-clause-alike c =
    let it = c.args.it.now in
    let before = c.args.before.now in
    let store = c.args.told.now.led.store in
    let same = c.in_ok-returns.ensures in
    let found = c.in_ok-are_alike.ensures c.if-not-branch.false in
    let alike = subst (λ (left : List Slot). InBoth before store (AreAlike it.back left)) same.1
    (subst (λ (back : Back). InBoth before store (AreAlike back c.in_ok-returns.returns.left.now)) same.0 found) in
    IfOk-weaker c.are_apart.result _ _
    (λ b apart t earlier first. led it.back it.left.now c.args.approved.now.ring (plan_of before) c.args.approved.now.plan before store earlier c.args.told.now.led.entries.items c.requires.ring refl
    c.requires.led.ring c.requires.led.plan alike first c.requires.led.replays)
    c.are_apart.ensures.apart
