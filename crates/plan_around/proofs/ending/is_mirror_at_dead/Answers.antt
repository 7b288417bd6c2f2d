use Rattle.std.proofs.Common.{◌≡◌, ◌∙◌, ℕ, ap, arith, sym}
use Rattle.plan_text.specs.declared.step.Step.TheVariants.{Mirror}
use Rattle.plan_runs.specs.World.{slot_at}
use Rattle.plan_around.proofs.ending.is_mirror_at_dead.Goals as goal

pub returns-then-slot-partition : goal.returns-then-slot-partition
returns-then-slot-partition c = λ t.
    let same : c.in-Mirror.slot.partition ≡ c.args.partition = omega arith in (
      c.in-Mirror.slot.index,
      c.in-Mirror.node,
      c.in-Mirror.is ∙ ap (λ (p : ℕ). Mirror (slot_at p c.in-Mirror.slot.index) c.in-Mirror.node) same,
      sym c.has.ensures ∙ t,
    )
