use Rattle.ring_core.specs.World.{ring_of, plan_of}
use Rattle.plan_around.proofs.Refusing.{told-copied}
use Rattle.plan_around.proofs.over.is_copied.Goals as goal

pub returns-then-is_begun : goal.returns-then-is_begun
returns-then-is_begun c = λ t w m. told-copied (ring_of c.args.store.now) (plan_of c.args.store.now) w c.args.number (c.has_happened-is_begun.ensures c.if-is_begun.true w m) (c.is_closed_to-is_shut.ensures t w m)
