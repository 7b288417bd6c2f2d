use Rattle.std.proofs.Common.{◌≡◌, sym, subst, ◌∙◌}
use Rattle.std.proofs.lemmas.Result.{IfOk-weaker}
use Rattle.ring_script.specs.declared.bundle.Bundle.{Bundle}
use Rattle.ringplan_reports.specs.Why.{AnswersCheck}
use Rattle.ringplan_reports.proofs.Kept.{both}
use Rattle.ringplan_reports.proofs.Whys.{few_of_check, yes_of_check, yes_of_study}
use Rattle.ringplan_reports.proofs.why.why_bundle.Goals as goal

pub returns-in-Ok : goal.returns-in-Ok
returns-in-Ok c =
    record {
      why = IfOk-weaker c.why_read.result _ _ (λ a is. record {
        yes = yes_of_check c.args.bytes.now c.in-Ok.bundle a.output.items a.status is;
        check = λ b read. (
            let e : c.in-Ok.bundle ≡ b = (let f = sym c.in-Ok.ensures.read ∙ read in cc) in
            subst (λ (z : Bundle). AnswersCheck c.args.bytes.now z a.output.items a.status) e is);
      }) c.why_read.ensures;
      few = IfOk-weaker c.why_read.result _ _ (λ a is. few_of_check c.args.bytes.now c.in-Ok.bundle a.output.items a.status is) c.why_read.ensures;
    }

pub returns-in-Err : goal.returns-in-Err
returns-in-Err c =
    record {
      why = IfOk-weaker c.why_unread.result _ _
          (λ a is. record {
            yes = λ zero. yes_of_study _ (is.0 zero);
            check = λ b read. (let no = sym read ∙ c.in-Err.ensures.read is.1 in absurd cc);
          }) (both _ _ c.why_unread.result c.why_unread.ensures.yes c.why_unread.ensures.memory);
      few = c.why_unread.ensures.few;
    }
