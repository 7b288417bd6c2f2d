use Rattle.std.proofs.Common.{ℕ, ◌++◌, sym, ap, subst}
use Rattle.history_watch.specs.declared.resting.Paused.{Paused}
use Rattle.history_watch.specs.declared.resting.State.TheVariants.{Going}
use Rattle.history_watch.specs.Watching.{IsJudged}
use Rattle.history_watch.proofs.resting.take_more.Goals as goal

pub returns-in-Ok-clause-ok : goal.returns-in-Ok-clause-ok
returns-in-Ok-clause-ok c = λ ring plan before so. record {
  ring_is = so.ring_is;
  plan_is = so.plan_is;
  watch = c.take-taken.new.self;
  rests = ap (λ (p : Paused). Going p) c.pause.ensures.paused;
  counts = sym c.count-count.ensures;
  is = c.in-Ok.ensures.ok ring plan before (c.resume-watch.ensures.watching ring plan before so).0;
}

pub returns-in-Err-clause-err : goal.returns-in-Err-clause-err
returns-in-Err-clause-err c = λ ne ring plan before so. c.in-Err.ensures.err ne ring plan before (c.resume-watch.ensures.watching ring plan before so).0

pub returns-in-Ok-clause-judged : goal.returns-in-Ok-clause-judged
returns-in-Ok-clause-judged c = λ ring plan before so.
    subst (λ (n : ℕ). IsJudged ring plan (before ++ c.args.bytes.now) n) (sym c.count-count.ensures)
    (c.take-taken.ensures.judged ring plan before (c.resume-watch.ensures.watching ring plan before so).0)

pub returns-in-Err-clause-judged : goal.returns-in-Err-clause-judged
returns-in-Err-clause-judged c = λ ring plan before so.
    subst (λ (n : ℕ). IsJudged ring plan (before ++ c.args.bytes.now) n) (sym c.count-count.ensures)
    (c.take-taken.ensures.judged ring plan before (c.resume-watch.ensures.watching ring plan before so).0)
