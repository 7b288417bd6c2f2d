use Rattle.std.proofs.Common.{sym, ◌∙◌}
use Rattle.std.proofs.lemmas.Result.{IfOk-weaker}
use Rattle.history_laws.proofs.Numbered.{once}
use Rattle.history_laws.proofs.past.is_same_past.Goals as goal

pub returns : goal.returns
returns c =
    let it = c.args.it.now in
    let kept = c.keep_all.ensures c.if-not-keep_all.false in
    IfOk-weaker c.are_told.result _ _
    (λ b told t. record {
      numbers = it.numbers.now;
      same = λ k n e. (kept k n e).0;
      once = once it.old.now it.new.now it.numbers.now it.olds.now kept;
      gone = sym c.may_all_go.ensures ∙ c.if-not-may_all_go.false;
      told = told t;
    })
    c.are_told.ensures
