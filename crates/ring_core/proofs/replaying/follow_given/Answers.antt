use Rattle.std.proofs.Common.{subst}
use Rattle.plan_runs.specs.declared.event.Reply.{Reply}
use Rattle.ring_core.specs.World.{Answers}
use Rattle.ring_core.proofs.replaying.follow_given.Goals as goal

pub returns-in-Ok-clause-ok : goal.returns-in-Ok-clause-ok
returns-in-Ok-clause-ok c =
    let told = c.in-Ok.ensures.ok in
    subst (λ (r : Reply). Answers c.args.world.now c.args.entry.event r c.follow.new.world) told.0 told.1
