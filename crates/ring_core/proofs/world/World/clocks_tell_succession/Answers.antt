use Rattle.store_parts.proofs.ClocksOrder.{tells}
use Rattle.ring_core.specs.World.{clock_of}
use Rattle.ring_core.proofs.world.World.clocks_tell_succession.Goals as goal

pub returns : goal.returns
returns c w m = tells w (clock_of c.args.self.now) m.puts.clocks
