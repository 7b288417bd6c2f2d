use Rattle.ring_clock.proofs.Making.{put_behind}
use Rattle.ring_clock.proofs.laws.clocks_grow.Goals as goal

pub returns : goal.returns
returns c = put_behind
