use Rattle.std.proofs.Common.{ℕ, ◌<◌}
use Rattle.history_laws.specs.Past.{Keeps}
use Rattle.history_laws.proofs.same.keep_all.Given as goal

abbrev pub invariant-loop-step : goal.invariant-loop-step
invariant-loop-step l = (k : ℕ) → k < l.step → Keeps l.old l.new l.numbers l.olds k
