use Rattle.std.proofs.Common.{◌∙◌, [], refl, sym, ap, Some, Ok, Err}
use Rattle.history_watch.specs.declared.judge.Judge.{Judge}
use Rattle.ringplan_c.proofs.watching.ringplan_watch_take.Goals as goal

pub returns-in-Ok : goal.returns-in-Ok
returns-in-Ok c =
    let e = c.in-Ok.ensures in
    (c.deref_mut.result.now, _, c.take-judge.ensures.taken ∙ ap (λ (j : Judge). Some j) (sym c.deref_mut.ensures.value), c.put.ensures, (Ok tt, record { ok = e.ok; err = tt; judged = e.judged; counts = e.counts; refused = tt; again = e.again }, (Ok [], refl, c.fill.ensures)))

pub returns-in-Err : goal.returns-in-Err
returns-in-Err c =
    let e = c.in-Err.ensures in
    (c.deref_mut.result.now, _, c.take-judge.ensures.taken ∙ ap (λ (j : Judge). Some j) (sym c.deref_mut.ensures.value), c.put.ensures, (Err c.in-Err.refusal, record { ok = tt; err = e.err; judged = e.judged; counts = e.counts; refused = e.refused; again = e.again }, c.refuse.ensures))
