use Rattle.std.proofs.Common.{List, refl, sym, subst}
use Rattle.std.proofs.Math.Logic.{∥∥₁_map}
use Rattle.std.proofs.lemmas.Result.{IfOk-weaker}
use Rattle.history_text.specs.Replays.{parts_of}
use Rattle.plan_runs.specs.declared.event.Entry.{Entry}
use Rattle.ringplan_reports.specs.Studies.{IsLeftAt}
use Rattle.ringplan_reports.proofs.after.after_history.Goals as goal

pub returns : goal.returns
returns c =
    let b = c.in_ok-bundle in
    let found = c.in_ok-found.found.approved in
    let same = c.in_ok-found.ensures.same in
    IfOk-weaker c.ring_now.result _ _ (λ text left.
    let at = subst (λ (h : List Entry). IsLeftAt found.ring found.plan h text.items) c.as_slice.ensures.value left in (
      found.ring,
      found.plan,
      b.bundle.history.items,
      record { parts = parts_of b.bundle; read = b.ensures.read; ring_is = sym same.0; plan_is = sym same.1; history_is = refl; run = ∥∥₁_map at (λ x. (x.0, x.1)) },
      at,
    )) c.ring_now.ensures
