use Rattle.std.proofs.Common.{◌≡◌, map, take}
use Rattle.serde_json.specs.View.{view}
use Rattle.ring_work.specs.Report.{step_data}
use Rattle.ring_work.proofs.entries.step_values.Given as goal

abbrev pub invariant-loop-finisher : goal.invariant-loop-finisher
invariant-loop-finisher l = map view l.out.items ≡ map step_data (take l.finisher-index l.finishers)
