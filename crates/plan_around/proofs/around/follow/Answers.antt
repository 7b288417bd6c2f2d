use Rattle.std.proofs.Math.Logic.{∥∥₁_map}
use Rattle.plan_around.proofs.around.follow.Goals as goal

pub returns : goal.returns
returns c = ∥∥₁_map c.in_ok-replay.ensures.ok (λ x. (x.0, x.2))
