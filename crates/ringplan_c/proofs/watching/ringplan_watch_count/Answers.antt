use Rattle.std.proofs.Common.{◌∙◌, ap}
use Rattle.history_watch.specs.declared.judge.Judge.{Judge}
use Rattle.ringplan_c.proofs.watching.ringplan_watch_count.Goals as goal

pub returns : goal.returns
returns c = record {
  judge = c.take-judge.result.value;
  held_before = c.take-judge.ensures.taken;
  held_after = c.put.ensures;
  count = c.count-count.ensures ∙ ap (λ (j : Judge). j.count) c.deref.ensures;
}
