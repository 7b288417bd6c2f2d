use Rattle.std.proofs.Common.{◌∙◌, refl, sym, ap, Some, Ok, Err}
use Rattle.ringplan_c.proofs.Told.{filled}
use Rattle.history_watch.specs.declared.judge.Judge.{Judge}
use Rattle.ringplan_c.proofs.watching.ringplan_watch_end.Goals as goal

pub returns-in-Ok : goal.returns-in-Ok
returns-in-Ok c =
    let e = c.in-Ok.ensures in (
      c.deref_mut.result.now,
      _,
      c.take-judge.ensures.taken ∙ ap (λ (j : Judge). Some j) (sym c.deref_mut.ensures.value),
      c.put.ensures,
      (
        Ok c.in-Ok.text,
        record { ok = e.ok; err = tt; over = tt; same = e.same; again = e.again },
        (Ok c.in-Ok.text.items, refl, filled (Ok c.in-Ok.text.items) c.as_slice.result.now 0 c.args.output.now c.fill.new.room c.fill.new.length c.fill.result c.as_slice.ensures.value refl c.fill.ensures),
      ),
    )

pub returns-in-Err : goal.returns-in-Err
returns-in-Err c =
    let e = c.in-Err.ensures in
    (c.deref_mut.result.now, _, c.take-judge.ensures.taken ∙ ap (λ (j : Judge). Some j) (sym c.deref_mut.ensures.value), c.put.ensures, (Err c.in-Err.refusal, record { ok = tt; err = e.err; over = e.over; same = e.same; again = e.again }, c.refuse.ensures))
