use Rattle.std.proofs.Common.{◌∙◌, ap, inl, refl}
use Rattle.ringplan_answers.specs.Verdict.{judged}
use Rattle.ringplan_answers.proofs.Verdicts.{verdict-bad, verdict-good}
use Rattle.history_watch.proofs.Looped.{watched_by}
use Rattle.history_watch.proofs.bundle.watch_bundle.Goals as goal

pub returns-in-Ok-check : goal.returns-in-Ok-check
returns-in-Ok-check g c =
    watched_by c.args.bytes.now c.args.every _ _ _ _ c.watch_history.result c.in-Ok.bundle c.in-Ok.ensures.read c.in-Ok-check.ensures.accepted c.in-Ok-check.approved.ring c.in-Ok-check.approved.plan c.in-Ok-check.ensures.same.0
    c.in-Ok-check.ensures.same.1 c.watch_history.ensures

pub returns-in-Ok : goal.returns-in-Ok
returns-in-Ok g c = inl ((λ inside. verdict-good c.args.bytes.now c.in-Ok.bundle c.in-Ok.ensures.read ∙ ap judged (c.in-Err-check.ensures.refused (λ o. inside (inl o)))), refl, refl)

pub returns : goal.returns
returns g c = inl ((λ inside. verdict-bad c.args.bytes.now c.in-Err.refusal (c.in-Err.ensures.read (λ o. inside (inl o)))), refl, refl)
