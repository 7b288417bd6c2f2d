use Rattle.std.proofs.Common.{refl}
use Rattle.ring_exec.proofs.Looks.{finished_there}
use Rattle.ring_exec.proofs.ledgered.Ledgered.is_finished.Goals as goal

pub returns : goal.returns
returns g c = finished_there c.args.self.now.world g.L.RunLedger.plan c.left.result _ c.args.self.now.plan c.left.ensures refl
