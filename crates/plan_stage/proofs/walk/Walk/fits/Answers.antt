use Rattle.std.proofs.Common.{rules}
use Rattle.plan_stage.proofs.walk.Walk.fits.Goals as goal

pub returns-then-node-self : goal.returns-then-node-self
returns-then-node-self c = search rules
