use Rattle.ring_work.specs.Driven.{MayPass}
use Rattle.ring_work.proofs.client.do_lines.Given as goal

abbrev pub invariant-loop-number : goal.invariant-loop-number
invariant-loop-number g l = MayPass (g.G.Gate.must_refuse l.fn.site.job.now.gate.now) l.fn.client l.number
