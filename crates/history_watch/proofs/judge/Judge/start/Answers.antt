use Rattle.std.proofs.Common.{refl, ap}
use Rattle.history_watch.specs.declared.resting.Paused.{Paused}
use Rattle.history_watch.specs.declared.resting.State.TheVariants.{Going}
use Rattle.history_watch.proofs.judge.Judge.start.Goals as goal

pub returns-clause-ok : goal.returns-clause-ok
returns-clause-ok c = record {
  ring_is = refl;
  plan_is = refl;
  watch = c.in_ok-start.field-0;
  rests = ap (λ (p : Paused). Going p) c.pause-paused.ensures.paused;
  counts = c.in_ok-start.ensures.first.1;
  is = c.in_ok-start.ensures.ok;
}
