use Rattle.std.proofs.Common.{List, [], ◌∷◌, ◌++◌, codes, Ok, Err, refl, subst}
use Rattle.std.proofs.lemmas.Result.{IfOk-weaker}
use Rattle.ring_table.specs.Value.{RingValue}
use Rattle.plan_text.specs.declared.step.Planned.{Planned}
use Rattle.ringplan_reports.specs.Kept.{SaysKept}
use Rattle.ringplan_reports.proofs.Whys.{check_no, check_yes}
use Rattle.ringplan_reports.proofs.why.why_read.Goals as goal

pub returns-in-Ok : goal.returns-in-Ok
returns-in-Ok c = IfOk-weaker c.answer_accepted.result _ _
    (λ a begins. (Ok (codes "yes" ++ 10 ∷ []), [], check_yes c.args.bytes.now c.args.bundle c.requires.read c.in-Ok.ensures.accepted c.in-Ok.ensures.approved.keeps, refl, begins)) c.answer_accepted.ensures

pub returns : goal.returns
returns c =
    let b = c.args.bundle in
    let turned = c.in-Err.turned in
    let same = c.in-Err.ensures.unchanged in
    IfOk-weaker c.answer_turned.result _ _
    (λ a said. (
      Err turned.refusal,
      said.0,
      check_no c.args.bytes.now b turned.refusal c.requires.read c.in-Err.ensures.refused,
      subst (λ (r : RingValue). SaysKept r b.plan b.cert said.0) same.0 (subst (λ (p : List Planned). SaysKept turned.ring p b.cert said.0) same.1 said.1),
      said.2,
    )) c.answer_turned.ensures
