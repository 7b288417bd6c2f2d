use Rattle.std.proofs.Common.{◌≡◌, false, sym, subst}
use Rattle.serde_json.specs.Data.{Data}
use Rattle.serde_json.specs.Written.{has_float}
use Rattle.ring_work.proofs.NoFloats.{report-plain}
use Rattle.ring_work.proofs.reporting.write_report.Goals as goal

pub line_of-requires : goal.line_of-requires
line_of-requires c = subst (λ (d : Data). has_float d ≡ false) (sym c.in_ok-value.ensures.value)
    (report-plain c.args.approved.now.ring c.args.writers.now c.args.outcome.now.history.items c.args.outcome.now.finishers.items c.args.workers)
