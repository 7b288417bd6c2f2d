use Rattle.std.proofs.Common.{sym}
use Rattle.std.proofs.Props.{props}
use Rattle.plan_runs.proofs.Answered.{refused}
use Rattle.store_parts.proofs.StoreInWorld.{holds}
use Rattle.ring_core.specs.World.{ring_of, plan_of}
use Rattle.ring_core.proofs.GuardRefusals.{never_memory}
use Rattle.ring_core.proofs.world.World.allows.Goals as goal

-- src/world.rt:40:5
pub returns-in-Some-clause-err : goal.returns-in-Some-clause-err
returns-in-Some-clause-err c =
    let a = c.args.self.now in (
      holds a.parts a.sound (hlevel props) (λ w m. never_memory (ring_of a) (plan_of a) w c.args.event.now c.in-Some.refusal (sym (c.in-Some.ensures w m))),
      λ w m. refused (ring_of a) (plan_of a) w c.args.event.now c.in-Some.refusal (sym (c.in-Some.ensures w m)),
    )
