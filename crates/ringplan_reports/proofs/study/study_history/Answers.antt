use Rattle.std.proofs.Common.{List, refl, sym, subst}
use Rattle.history_text.specs.Replays.{parts_of}
use Rattle.plan_runs.specs.declared.event.Entry.{Entry}
use Rattle.ring_core.specs.Replays.{IsHistory}
use Rattle.ringplan_reports.specs.Studies.{of_history}
use Rattle.ringplan_reports.proofs.study.study_history.Goals as goal

pub returns-clause-of : goal.returns-clause-of
returns-clause-of c =
    let b = c.in_ok-bundle in
    let same = c.in_ok-found.ensures.same in
    let found = c.in_ok-found.found.approved in
    of_history (parts_of b.bundle) b.ensures.read (sym same.0) (sym same.1) (subst (λ (h : List Entry). IsHistory found.ring found.plan h) c.as_slice.ensures.value c.in_ok-follow.ensures)

pub returns-clause-history : goal.returns-clause-history
returns-clause-history c =
    let b = c.in_ok-bundle in
    let same = c.in_ok-found.ensures.same in
    record { parts = parts_of b.bundle; read = b.ensures.read; ring_is = sym same.0; plan_is = sym same.1; history_is = refl; run = subst (λ (h : List Entry). IsHistory c.in_ok-found.found.approved.ring c.in_ok-found.found.approved.plan h) c.as_slice.ensures.value c.in_ok-follow.ensures }
