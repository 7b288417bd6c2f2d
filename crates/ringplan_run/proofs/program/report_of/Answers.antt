use Rattle.std.proofs.Common.{◌≡◌, ◌∙◌, ℕ, List, sym, subst}
use Rattle.ringplan_answers.specs.Io.{Tells}
use Rattle.ringplan_reports.proofs.Kept.{weaker}
use Rattle.ringplan_run.specs.Run.{read}
use Rattle.ringplan_run.proofs.program.report_of.Goals as goal

pub returns-in-Ok : goal.returns-in-Ok
returns-in-Ok g c =
    let told = c.in-Ok.ensures in
    let same : told.0 ≡ c.as_slice.result.now = sym told.2.0 ∙ sym c.as_slice.ensures.value in
    weaker c.report_bundle.result c.report_bundle.ensures (λ r p asked made. (c.as_slice.result.now, subst (λ (xs : List ℕ). Tells (g.R.Read.remaining c.args.input.now) xs) same told.1, read c.args.options.now made c.requires p))
