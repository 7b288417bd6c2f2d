use Rattle.ring_core.proofs.HintsKept.{hint_kept}
use Rattle.ring_core.proofs.world.World.hint_at.Goals as goal

pub returns-clause-some : goal.returns-clause-some
returns-clause-some c = hint_kept c.args.self.now.parts c.args.self.now.sound.sized c.nth.result c.nth.ensures.some
